-- What the readers of values answer, step by step.
use Rattle.std.proofs.Common.{◌≡◌, ◌≢◌, ℕ, ◌^◌, ◌<◌, ◌≤◌, Bool, true, false, not, ◌&&◌, cond, eqb, ltb, leb, List, [], ◌∷◌, length, get_or, Option, Some, None, Result, Ok, Err, refl, sym, ap, ◌∙◌, arith}
use Rattle.std.specs.Prelude.{chars, codes}
use Rattle.std.specs.Cmp.{IsTotalOrder}
use Rattle.std.specs.declared.cmp.Ordering.{Ordering}
use Rattle.std.specs.FinMap.{FinMap, empty, entries, entries_sorted, insert, len-empty, len-entries}
use Rattle.std.specs.Char.{is_ascii_digit}
use Rattle.std.specs.List.{list_all}
use Rattle.std.specs.Str.{bytes_eq, all_ascii_digits, encode_utf8_all, is_utf8, IsUtf8}
use Rattle.std.proofs.lemmas.Slice.Eq.{bytes_eq-Decides}
use Rattle.std.proofs.lemmas.Str.{encodes-chars, is_utf8-from_IsUtf8}
use Rattle.std.specs.Str.Parse.{ParsesUnsigned, digits_value}
use Rattle.std.specs.Result.{OkIff}
use Rattle.std.proofs.lemmas.Bool.{le-leb, leb-true, lt-ltb, ltb-true, or_parts, and_parts, eqb-false, eqb-true, ne_eqb}
use Rattle.std.proofs.lemmas.Str.Parse.{IsNumeralModel, numerals_by_value, tells_all_ascii_digits, parse_plain}
use Rattle.rc_sitetext.proofs.Cuts.{starred_none}
use Rattle.rc_sitetext.proofs.Rising.{above_none, above_some, entries-insert_last, last_of-push}
use Rattle.rc_sitetext.specs.SiteText.{letters}
use Rattle.rc_sitetext.specs.Reading.{number_at, is_numeral, is_padded, letter_at, flags_at, attr_at, attr_with, job_name_at, content_at, plain_at, is_above, is_behind, last_key, last_of}

pub numerals : IsNumeralModel (λ ds. all_ascii_digits ds ≡ true) (digits_value 10)
numerals = numerals_by_value (λ ds. all_ascii_digits ds ≡ true) tells_all_ascii_digits

numeral_is : (text : List ℕ) → is_padded text ≡ false → all_ascii_digits text ≡ true → 0 < length text → is_numeral text ≡ true
numeral_is text plain digits some = rw (plain, digits, lt-ltb 0 (length text) some) refl

no_plus : (text : List ℕ) → is_padded text ≡ false → get_or text 0 0 ≢ 43
no_plus text plain = eqb-false (get_or text 0 0) 43 (or_parts (eqb (get_or text 0 0) 43) (eqb (get_or text 0 0) 48 && ltb 1 (length text)) plain).0

none_unless : {A : Type 0} (b : Bool) (x : A) → (b ≡ true → ⊥) → cond b (Some x) None ≡ None
none_unless true x never = absurd (never refl)
none_unless false x never = refl

-- a number within the bound
pub number_ok : {E : Type 0} (greatest n : ℕ) (text : List ℕ) (r : Result ℕ E) → ParsesUnsigned 64 10 text r → is_padded text ≡ false → r ≡ Ok n → n ≤ greatest → number_at greatest text ≡ Some n
unfolding number_at
number_ok greatest n text r parses plain ok le =
    let read : OkIff r ((all_ascii_digits text ≡ true) × (0 < length text) × (digits_value 10 text < 2 ^ 64)) (digits_value 10 text) = parse_plain numerals 64 text r parses (no_plus text plain) in
    let parts = rw ok at read in
    let value : n ≡ digits_value 10 text = parts.1 in
    let within : leb (digits_value 10 text) greatest ≡ true = le-leb (digits_value 10 text) greatest (omega (arith, value)) in
    rw (numeral_is text plain parts.0.0 parts.0.1, within) (ap Some (sym value))

-- a number above the bound
pub number_large : {E : Type 0} (greatest n : ℕ) (text : List ℕ) (r : Result ℕ E) → ParsesUnsigned 64 10 text r → is_padded text ≡ false → r ≡ Ok n → greatest < n → number_at greatest text ≡ None
unfolding number_at
number_large greatest n text r parses plain ok lt =
    let read : OkIff r ((all_ascii_digits text ≡ true) × (0 < length text) × (digits_value 10 text < 2 ^ 64)) (digits_value 10 text) = parse_plain numerals 64 text r parses (no_plus text plain) in
    let parts = rw ok at read in
    let value : n ≡ digits_value 10 text = parts.1 in
    none_unless (is_numeral text && leb (digits_value 10 text) greatest) (digits_value 10 text)
    (λ yes. let le = leb-true (digits_value 10 text) greatest (and_parts (is_numeral text) (leb (digits_value 10 text) greatest) yes).1 in omega (arith, le, value))

-- what is no number
pub number_none : {E : Type 0} (greatest : ℕ) (text : List ℕ) (r : Result ℕ E) (e : E) → ParsesUnsigned 64 10 text r → is_padded text ≡ false → r ≡ Err e → greatest < 2 ^ 64 → number_at greatest text ≡ None
unfolding number_at
number_none greatest text r e parses plain err lt =
    let read : OkIff r ((all_ascii_digits text ≡ true) × (0 < length text) × (digits_value 10 text < 2 ^ 64)) (digits_value 10 text) = parse_plain numerals 64 text r parses (no_plus text plain) in
    let not_read = rw err at read in
    none_unless (is_numeral text && leb (digits_value 10 text) greatest) (digits_value 10 text)
    (λ yes.
    let both = and_parts (is_numeral text) (leb (digits_value 10 text) greatest) yes in
    let rest = (and_parts (not (is_padded text)) (all_ascii_digits text && ltb 0 (length text)) both.0).1 in
    let parts = and_parts (all_ascii_digits text) (ltb 0 (length text)) rest in
    let le = leb-true (digits_value 10 text) greatest both.1 in
    not_read (parts.0, ltb-true 0 (length text) parts.1, omega (arith, le)))

both_ways : (p q : Bool) → (p ≡ true → q ≡ true) → (q ≡ true → p ≡ true) → p ≡ q
both_ways true q to from = sym (to refl)
both_ways false true to from = from refl
both_ways false false to from = refl

-- two texts are the same where their characters are
pub same_chars : (a b x y : List ℕ) → IsUtf8 a → IsUtf8 b → chars a ≡ x → chars b ≡ y → bytes_eq a b ≡ bytes_eq x y
same_chars a b x y p q e f =
    both_ways (bytes_eq a b) (bytes_eq x y)
    (λ is. (bytes_eq-Decides x y).1 (sym e ∙ ap chars ((bytes_eq-Decides a b).0 is) ∙ f))
    (λ is. (bytes_eq-Decides a b).1 (sym (encodes-chars a p) ∙ ap encode_utf8_all (e ∙ (bytes_eq-Decides x y).0 is ∙ sym f) ∙ encodes-chars b q))

-- one more letter in front
pub flags_more : (c : ℕ) (cs text rest : List ℕ) (b : Bool) (bs : List Bool) (end : List ℕ) → b ≡ (letter_at c text).0 → rest ≡ (letter_at c text).1 → flags_at cs rest ≡ (bs, end) → flags_at (c ∷ cs) text ≡ (b ∷ bs, end)
unfolding flags_at
flags_more c cs text rest b bs end found left others =
    ap (λ (t : List ℕ). ((letter_at c text).0 ∷ (flags_at cs t).0, (flags_at cs t).1)) (sym left)
    ∙ ap (λ (p : List Bool × List ℕ). ((letter_at c text).0 ∷ p.0, p.1)) others ∙ ap (λ (x : Bool). (x ∷ bs, end)) (sym found)

pub flags_end : (text : List ℕ) → flags_at [] text ≡ ([], text)
unfolding flags_at
flags_end text = refl

-- the attributes, where these letters were taken and that is left
pub attr_read : (text end : List ℕ) (flags : List Bool) → bytes_eq text (codes "-") ≡ false → eqb (length text) 0 ≡ false → flags_at letters text ≡ (flags, end) → attr_at text ≡ cond (eqb (length end) 0) (attr_with flags) None
unfolding attr_at
attr_read text end flags dash some taken = rw (dash, some, taken) refl

-- each byte is a digit
pub all_digits : (text : List ℕ) → list_all is_ascii_digit text ≡ all_ascii_digits text
all_digits [] = refl
all_digits (c ∷ text) = ap (λ (b : Bool). is_ascii_digit c && b) (all_digits text)

-- a name of at least one character
pub name_read : (text : List ℕ) → IsUtf8 text → eqb (length text) 0 ≡ false → job_name_at text ≡ Some (chars text)
unfolding job_name_at
name_read text utf8 some =
    let ne = eqb-false (length text) 0 some in
    rw (is_utf8-from_IsUtf8 text utf8, lt-ltb 0 (length text) (omega (arith, ne))) refl

pub name_none : (text : List ℕ) → eqb (length text) 0 ≡ true → job_name_at text ≡ None
unfolding job_name_at
name_none [] none = none_of (is_utf8 [])
  where
    none_of : (b : Bool) → cond (b && false) (Some (chars [])) None ≡ None
    none_of true = refl
    none_of false = refl
name_none (c ∷ text) none = absurd (let e = eqb-true (length (c ∷ text)) 0 none in omega (arith, e))

-- what begins with no `*` is written out
pub content_plain : (size : ℕ) (text : List ℕ) → size ≢ 0 → ((rest : List ℕ) → text ≢ 42 ∷ rest) → content_at size text ≡ plain_at size text
unfolding content_at
content_plain size text some other = rw (ne_eqb size 0 some) (starred_none size text other)

no_last : {K X : Type 0} (es : List (K × X)) → length es ≡ 0 → last_of es ≡ None
no_last [] none = refl
no_last (e ∷ es) none = absurd (omega (arith, none))

pub last_key_empty : {K : Type 0} (X : Type 0) (R : K → K → Ordering) → last_key (empty {X = X} {R = R}) ≡ None
last_key_empty X R = no_last (entries {R = R} (empty {X = X})) (sym (len-entries (empty {X = X} {R = R})) ∙ len-empty R X)

module _ {K X : Type 0} (R : K → K → Ordering) (o : IsTotalOrder R) where
  -- a key is above all of a map where it comes behind the last one
  pub is_above_behind : (m : FinMap R X) (last : Option K) (key : K) → last_key m ≡ last → is_above m key ≡ is_behind R last key
  unfolding is_above
  is_above_behind m None key e = above_none R o key (entries m) e
  is_above_behind m (Some last) key e = above_some R o key (entries m) last (entries_sorted m) e

  -- a key that was added behind the last one is the last one
  pub last_key_added : (m : FinMap R X) (key : K) (x : X) → is_above m key ≡ true → last_key (insert m key x) ≡ Some key
  unfolding is_above
  last_key_added m key x above =
      ap last_of (entries-insert_last R o m key x above) ∙ last_of-push R o (entries m) (key, x)
