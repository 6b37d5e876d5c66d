-- Attributes, security strings and contents: what is read is the spelling, and the spelling is read again.
use Rattle.std.proofs.Common.{◌≡◌, ◌≢◌, ℕ, zero, suc, ◌<◌, ◌≤◌, Bool, true, false, not, ◌&&◌, ◌||◌, cond, eqb, ltb, List, [], ◌∷◌, ◌++◌, length, take, replicate, Some, None, refl, sym, ap, subst, ◌∙◌, arith, inl, inr}
use Rattle.std.specs.Prelude.{codes}
use Rattle.std.specs.List.{list_all}
use Rattle.std.specs.Str.{bytes_eq}
use Rattle.std.proofs.lemmas.Bool.{cases_Bool, ne_eqb, eqb-false, eqb-true, ltb-true, lt-ltb, and_parts, or_parts, not-true, not-false}
use Rattle.std.proofs.lemmas.Bool.Decides.{eqb_tells}
use Rattle.std.proofs.lemmas.List.{append-nil, length-replicate}
use Rattle.std.proofs.lemmas.Slice.Eq.{bytes_eq-Decides}
use Rattle.hex.specs.Hex.{IsBytes, encode_lower, encode_with, lower_digits}
use Rattle.hex.proofs.HexLemmas.{length-encode_with}
use Rattle.rc_tree.specs.declared.attr.Attr.{Attr}
use Rattle.rc_tree.specs.Attr.{no_attr}
use Rattle.rc_sitetext.specs.SiteText.{or_dash, letters, flags_of, marked, attr_text, hex_text, is_repeated, content_text}
use Rattle.rc_sitetext.specs.Reading.{letter_at, flags_at, attr_with, attr_at, bytes_at, hex_at, repeated_byte, repeated_at, plain_at, starred_at, content_at}
use Rattle.rc_sitetext.proofs.Appends.{or_dash_some, hex_some}
use Rattle.rc_sitetext.proofs.FieldValues.{attr_read}
use Rattle.rc_sitetext.proofs.HexLaws.{bytes_take, bytes_again, IsPrintable-hex}
use Rattle.rc_sitetext.proofs.Printable.{IsPrintable, IsPlain-printable, IsUtf8-printable, IsPrintable-literal}
use Rattle.rc_sitetext.proofs.Spells.{IsField, some_is, bind_some, if_some, unless_some}

-- Letters

flag : ℕ → Bool → List ℕ
flag c b = cond b (c ∷ []) []

letter_takes : (c : ℕ) (text : List ℕ) → text ≡ flag c (letter_at c text).0 ++ (letter_at c text).1
unfolding flag
letter_takes c [] = refl
letter_takes c (b ∷ text) =
    elim (eqb_tells b c) [
      | inl same ↦ rw same.0 (ap (λ (x : ℕ). x ∷ text) same.1)
      | inr other ↦ rw other.0 refl
    ]

mark_more : (c : ℕ) (cs : List ℕ) (b : Bool) (bs : List Bool) (text mid rest : List ℕ) → text ≡ flag c b ++ mid → mid ≡ marked cs bs ++ rest → text ≡ marked (c ∷ cs) (b ∷ bs) ++ rest
unfolding flag marked
mark_more c cs true bs text mid rest e f = e ∙ ap (λ (t : List ℕ). c ∷ t) f
mark_more c cs false bs text mid rest e f = e ∙ f

flags_take : (cs text : List ℕ) → (text ≡ marked cs (flags_at cs text).0 ++ (flags_at cs text).1) × (length (flags_at cs text).0 ≡ length cs)
unfolding flags_at marked
flags_take [] text = (refl, refl)
flags_take (c ∷ cs) text =
    let first = letter_at c text in
    let rest = flags_take cs first.1 in
    (mark_more c cs first.0 (flags_at cs first.1).0 text first.1 (flags_at cs first.1).1 (letter_takes c text) rest.0, ap suc rest.1)

-- another letter than these
is_other : ℕ → List ℕ → Bool
is_other c cs = list_all (λ d. not (eqb d c)) cs

other_letter : (c : ℕ) (cs : List ℕ) (bs : List Bool) → is_other c cs ≡ true → letter_at c (marked cs bs) ≡ (false, marked cs bs)
unfolding marked is_other
other_letter c [] bs h = refl
other_letter c (d ∷ cs) [] h = refl
other_letter c (d ∷ cs) (true ∷ bs) h =
    let p = and_parts (not (eqb d c)) (list_all (λ d. not (eqb d c)) cs) h in
    rw (not-true (eqb d c) p.0) refl
other_letter c (d ∷ cs) (false ∷ bs) h =
    let p = and_parts (not (eqb d c)) (list_all (λ d. not (eqb d c)) cs) h in
    other_letter c cs bs p.1

are_apart : List ℕ → Bool
are_apart [] = true
are_apart (c ∷ cs) = is_other c cs && are_apart cs

this_letter : (c : ℕ) (text : List ℕ) → letter_at c (c ∷ text) ≡ (true, text)
this_letter c text = elim (eqb_tells c c) [ inl same ↦ rw same.0 refl | inr other ↦ absurd (other.1 refl) ]

flags_again : (cs : List ℕ) (bs : List Bool) → are_apart cs ≡ true → length bs ≡ length cs → flags_at cs (marked cs bs) ≡ (bs, [])
unfolding marked are_apart flags_at
flags_again [] [] apart len = refl
flags_again [] (b ∷ bs) apart len = absurd (omega arith)
flags_again (c ∷ cs) [] apart len = absurd (omega arith)
flags_again (c ∷ cs) (true ∷ bs) apart len =
    let p = and_parts (is_other c cs) (are_apart cs) apart in
    rw (this_letter c (marked cs bs)) (ap (λ (q : List Bool × List ℕ). (true ∷ q.0, q.1)) (flags_again cs bs p.1 (omega arith)))
flags_again (c ∷ cs) (false ∷ bs) apart len =
    let p = and_parts (is_other c cs) (are_apart cs) apart in
    rw (other_letter c cs bs p.0) (ap (λ (q : List Bool × List ℕ). (false ∷ q.0, q.1)) (flags_again cs bs p.1 (omega arith)))

letters_apart : are_apart letters ≡ true
unfolding are_apart is_other
letters_apart = refl

marked_printable : (cs : List ℕ) (bs : List Bool) → IsPrintable 65 cs → IsPrintable 65 (marked cs bs)
unfolding marked
marked_printable [] bs h = tt
marked_printable (c ∷ cs) [] h = tt
marked_printable (c ∷ cs) (true ∷ bs) h = (h.0, marked_printable cs bs h.1)
marked_printable (c ∷ cs) (false ∷ bs) h = marked_printable cs bs h.1

abbrev pub Always : {X : Type 0} → X → Type 0
Always x = Unit {0}

with_flags : (flags : List Bool) (a : Attr) → attr_with flags ≡ Some a → flags ≡ flags_of a
with_flags (r ∷ a ∷ s ∷ h ∷ c ∷ n ∷ e ∷ t ∷ o ∷ p ∷ []) attr is = ap flags_of (some_is _ attr is)
with_flags _ attr is = absurd cc

same_text : (a b : List ℕ) → bytes_eq a b ≡ true → a ≡ b
same_text a b is = (bytes_eq-Decides a b).0 is

-- the text `-`, or another one
dash_not : (c : ℕ) (text : List ℕ) → 45 < c → bytes_eq (c ∷ text) (codes "-") ≡ false
dash_not c text lt = rw (ne_eqb c 45 (λ e. omega (arith, e))) refl

dash_is : codes "-" ≡ attr_text no_attr
unfolding marked
dash_is = refl

nothing : (text : List ℕ) → eqb (length text) 0 ≡ true → text ≡ []
nothing [] none = refl
nothing (c ∷ text) none = absurd (omega (arith, eqb-true (length (c ∷ text)) 0 none))

some_bytes : (text : List ℕ) → eqb (length text) 0 ≡ false → 0 < length text
some_bytes text some = let ne = eqb-false (length text) 0 some in omega (arith, ne)

attr_takes : (text : List ℕ) (a : Attr) → attr_at text ≡ Some a → text ≡ attr_text a
unfolding attr_at
attr_takes text a e =
    elim (cases_Bool (bytes_eq text (codes "-"))) [
      | inl so ↦
          let none : Some no_attr ≡ Some a = rw so at e in
          same_text text (codes "-") so ∙ dash_is ∙ ap attr_text (some_is no_attr a none)
      | inr other ↦
          let p = unless_some (eqb (length text) 0) (cond (eqb (length (flags_at letters text).1) 0) (attr_with (flags_at letters text).0) None) a (rw other at e) in
          let q = if_some (eqb (length (flags_at letters text).1) 0) (attr_with (flags_at letters text).0) a p.1 in
          let flags = with_flags (flags_at letters text).0 a q.1 in
          let whole : text ≡ marked letters (flags_of a) =
          (flags_take letters text).0 ∙ ap (λ (t : List ℕ). marked letters (flags_at letters text).0 ++ t) (nothing (flags_at letters text).1 q.0)
          ∙ append-nil (marked letters (flags_at letters text).0) ∙ ap (marked letters) flags in
          let some : 0 < length (marked letters (flags_of a)) = omega (arith, some_bytes text p.0, ap length whole) in
          whole ∙ sym (or_dash_some (marked letters (flags_of a)) some)
    ]

attr_again_at : (a : Attr) (m : List ℕ) → m ≡ marked letters (flags_of a) → IsPrintable 65 m → attr_at (or_dash m) ≡ Some a
unfolding attr_at flags_at
attr_again_at a [] is h =
    let taken : flags_at letters [] ≡ (flags_of a, []) = ap (flags_at letters) is ∙ flags_again letters (flags_of a) letters_apart refl in
    ap (λ (p : List Bool × List ℕ). attr_with p.0) taken
attr_again_at a (c ∷ m) is h =
    let taken : flags_at letters (c ∷ m) ≡ (flags_of a, []) = ap (flags_at letters) is ∙ flags_again letters (flags_of a) letters_apart refl in
    attr_read (c ∷ m) [] (flags_of a) (dash_not c m (omega (arith, h.0.0))) (ne_eqb (length (c ∷ m)) 0 (λ e. omega (arith, e))) taken

or_dash_printable : (least : ℕ) (text : List ℕ) → least ≤ 45 → IsPrintable least text → IsPrintable least (or_dash text)
or_dash_printable least [] le h = ((le, omega arith), tt)
or_dash_printable least (c ∷ text) le h = h

weaken : (low high : ℕ) (text : List ℕ) → low ≤ high → IsPrintable high text → IsPrintable low text
weaken low high [] le h = tt
weaken low high (c ∷ text) le h = ((omega (arith, h.0.0), h.0.1), weaken low high text le h.1)

attr_printable : (a : Attr) → IsPrintable 45 (attr_text a)
attr_printable a = or_dash_printable 45 (marked letters (flags_of a)) (omega arith) (weaken 45 65 (marked letters (flags_of a)) (omega arith) (marked_printable letters (flags_of a) (IsPrintable-literal 65 letters refl)))

pub attr_field : IsField attr_at attr_text Always
attr_field =
    record {
      takes = λ text a e. (attr_takes text a e, tt);
      again = λ a fits. attr_again_at a (marked letters (flags_of a)) refl (marked_printable letters (flags_of a) (IsPrintable-literal 65 letters refl));
      plain = λ a fits. IsPlain-printable 45 (attr_text a) (omega arith) (attr_printable a);
      utf8 = λ a fits. IsUtf8-printable 45 (attr_text a) (attr_printable a);
    }

-- Byte strings

hex_printable : (bytes : List ℕ) → IsBytes bytes → IsPrintable 45 (hex_text bytes)
hex_printable bytes fits = or_dash_printable 45 (encode_lower bytes) (omega arith) (weaken 45 48 (encode_lower bytes) (omega arith) (IsPrintable-hex bytes fits))

not_dash : (text : List ℕ) → 0 < length text → IsPrintable 48 text → bytes_eq text (codes "-") ≡ false
not_dash [] some h = absurd (omega arith)
not_dash (c ∷ text) some h = dash_not c text (omega (arith, h.0.0))

hex_takes : (text bytes : List ℕ) → hex_at text ≡ Some bytes → (text ≡ hex_text bytes) × IsBytes bytes
unfolding hex_at encode_with
hex_takes text bytes e =
    elim (cases_Bool (bytes_eq text (codes "-"))) [
      | inl so ↦
          let none : [] ≡ bytes = some_is [] bytes (rw so at e) in
          subst (λ (b : List ℕ). (text ≡ hex_text b) × IsBytes b) none (same_text text (codes "-") so, λ i. omega arith)
      | inr other ↦
          let p = bind_some (bytes_at text) (λ b. cond (eqb (length b) 0) None (Some b)) bytes (rw other at e) in
          let q = unless_some (eqb (length p.0) 0) (Some p.0) bytes p.2 in
          let t = bytes_take text p.0 p.1 in
          subst (λ (b : List ℕ). (text ≡ hex_text b) × IsBytes b) (some_is p.0 bytes q.1)
          (t.0 ∙ sym (hex_some p.0 q.0), t.1)
    ]

some_length : (b : ℕ) (bytes : List ℕ) → eqb (length (b ∷ bytes)) 0 ≡ false
some_length b bytes = ne_eqb (length (b ∷ bytes)) 0 (λ e. omega (arith, e))

hex_again : (bytes : List ℕ) → IsBytes bytes → hex_at (hex_text bytes) ≡ Some bytes
unfolding hex_at encode_with
hex_again [] fits = refl
hex_again (b ∷ bytes) fits =
    let dash = not_dash (encode_lower (b ∷ bytes)) (omega (arith, length-encode_with lower_digits (b ∷ bytes))) (IsPrintable-hex (b ∷ bytes) fits) in
    rw (dash, bytes_again (b ∷ bytes) fits, some_length b bytes) refl

pub hex_field : IsField hex_at hex_text IsBytes
hex_field =
    record {
      takes = hex_takes;
      again = hex_again;
      plain = λ bytes fits. IsPlain-printable 45 (hex_text bytes) (omega arith) (hex_printable bytes fits);
      utf8 = λ bytes fits. IsUtf8-printable 45 (hex_text bytes) (hex_printable bytes fits);
    }

-- Contents

-- a text that spells these bytes
pub record Spelled (size : ℕ) (text bytes : List ℕ) : Type 0 where
  pub text_is : text ≡ content_text bytes
  pub fits : IsBytes bytes
  pub size_is : length bytes ≡ size

all_same : (n b : ℕ) → list_all (λ c. eqb c b) (replicate n b) ≡ true
all_same zero b = refl
all_same (suc n) b = elim (eqb_tells b b) [ inl same ↦ rw (same.0, all_same n b) refl | inr other ↦ absurd (other.1 refl) ]

same_all : (b : ℕ) (bytes : List ℕ) → list_all (λ c. eqb c b) bytes ≡ true → replicate (length bytes) b ≡ bytes
same_all b [] h = refl
same_all b (c ∷ bytes) h =
    let p = and_parts (eqb c b) (list_all (λ c. eqb c b) bytes) h in
    ap (λ (x : ℕ). x ∷ replicate (length bytes) b) (sym (eqb-true c b p.0)) ∙ ap (λ (t : List ℕ). c ∷ t) (same_all b bytes p.1)

replicate_fits : (n b : ℕ) → b < 256 → IsBytes (replicate n b)
replicate_fits zero b h i = omega arith
replicate_fits (suc n) b h zero = h
replicate_fits (suc n) b h (suc i) = replicate_fits n b h i

repeated_text : (size b : ℕ) → 1 < size → content_text (replicate size b) ≡ 42 ∷ encode_lower (b ∷ [])
repeated_text zero b lt = absurd (omega arith)
repeated_text (suc n) b lt = rw (lt-ltb 0 (length (replicate n b)) (omega (arith, length-replicate n b)), all_same n b) refl

times_take : (size : ℕ) (one bytes : List ℕ) → repeated_byte size one ≡ Some bytes → (b : ℕ) × (one ≡ b ∷ []) × (1 < size) × (replicate size b ≡ bytes)
times_take size [] bytes e = absurd cc
times_take size (b ∷ []) bytes e = let p = if_some (ltb 1 size) (Some (replicate size b)) bytes e in (b, refl, ltb-true 1 size p.0, some_is (replicate size b) bytes p.1)
times_take size (b ∷ c ∷ more) bytes e = absurd cc

repeated_takes : (size : ℕ) (digits bytes : List ℕ) → repeated_at size digits ≡ Some bytes → Spelled size (42 ∷ digits) bytes
unfolding repeated_at
repeated_takes size digits bytes e =
    let p = bind_some (bytes_at digits) (repeated_byte size) bytes e in
    let q = times_take size p.0 bytes p.2 in
    let t = bytes_take digits p.0 p.1 in
    let fits : q.0 < 256 = subst IsBytes q.1 t.1 0 in
    subst (Spelled size (42 ∷ digits)) q.3
    (record {
      text_is = ap (λ (x : List ℕ). 42 ∷ x) (t.0 ∙ ap encode_lower q.1) ∙ sym (repeated_text size q.0 q.2);
      fits = replicate_fits size q.0 fits;
      size_is = length-replicate size q.0;
    })

written_takes : (size : ℕ) (text bytes : List ℕ) → size ≢ 0 → plain_at size text ≡ Some bytes → Spelled size text bytes
unfolding plain_at
written_takes size text bytes some e =
    let p = bind_some (bytes_at text) (λ b. cond (not (eqb (length b) size) || is_repeated b) None (Some b)) bytes e in
    let q = unless_some (not (eqb (length p.0) size) || is_repeated p.0) (Some p.0) bytes p.2 in
    let parts = or_parts (not (eqb (length p.0) size)) (is_repeated p.0) q.0 in
    let t = bytes_take text p.0 p.1 in
    let size_is = eqb-true (length p.0) size (not-false (eqb (length p.0) size) parts.0) in
    let some_of : eqb (length p.0) 0 ≡ false = ne_eqb (length p.0) 0 (λ z. some (sym size_is ∙ z)) in
    subst (Spelled size text) (some_is p.0 bytes q.1)
    (record { text_is = rw parts.1 (t.0 ∙ sym (hex_some p.0 some_of)); fits = t.1; size_is = size_is })

starred_takes : (size : ℕ) (text bytes : List ℕ) → size ≢ 0 → starred_at size text ≡ Some bytes → Spelled size text bytes
starred_takes size [] bytes some e = written_takes size [] bytes some e
starred_takes size (c ∷ text) bytes some e =
    elim (eqb_tells c 42) [
      | inl star ↦ subst (λ (x : ℕ). Spelled size (x ∷ text) bytes) (sym star.1) (repeated_takes size text bytes (rw star.0 at e))
      | inr other ↦ written_takes size (c ∷ text) bytes some (rw other.0 at e)
    ]

pub content_takes : (size : ℕ) (text bytes : List ℕ) → content_at size text ≡ Some bytes → Spelled size text bytes
unfolding content_at encode_with
content_takes size text bytes e =
    elim (eqb_tells size 0) [
      | inl none ↦
          let p = if_some (bytes_eq text (codes "-")) (Some []) bytes (rw none.0 at e) in
          subst (Spelled size text) (some_is [] bytes p.1) (record { text_is = same_text text (codes "-") p.0; fits = λ i. omega arith; size_is = sym none.1 })
      | inr some ↦ starred_takes size text bytes some.1 (rw some.0 at e)
    ]

first_not_star : (size : ℕ) (text : List ℕ) → 0 < length text → IsPrintable 48 text → starred_at size text ≡ plain_at size text
first_not_star size [] some h = absurd (omega arith)
first_not_star size (c ∷ text) some h = rw (ne_eqb c 42 (λ e. omega (arith, h.0.0, e))) refl

itself_size : (n : ℕ) (bytes : List ℕ) → cond (not (eqb n n) || false) None (Some bytes) ≡ Some bytes
itself_size n bytes = elim (eqb_tells n n) [ inl same ↦ rw same.0 refl | inr other ↦ absurd (other.1 refl) ]

first_fits : (bytes : List ℕ) → IsBytes bytes → IsBytes (take 1 bytes)
first_fits [] fits = fits
first_fits (b ∷ bytes) fits = replicate_fits 1 b (fits 0)

pub content_again : (bytes : List ℕ) → IsBytes bytes → content_at (length bytes) (content_text bytes) ≡ Some bytes
unfolding content_at encode_with repeated_at plain_at
content_again [] fits = refl
content_again (b ∷ bytes) fits =
    elim (cases_Bool (is_repeated (b ∷ bytes))) [
      | inl so ↦
          let p = and_parts (ltb 0 (length bytes)) (list_all (λ c. eqb c b) bytes) so in
          let more = ltb-true 0 (length bytes) p.0 in
          let one : IsBytes (b ∷ []) = replicate_fits 1 b (fits 0) in
          let again = bytes_again (b ∷ []) one in
          rw (so, some_length b bytes) (rw again (rw (lt-ltb 1 (length (b ∷ bytes)) (omega arith)) (ap (λ (t : List ℕ). Some (b ∷ t)) (same_all b bytes p.1))))
      | inr no_star ↦
          let plain = first_not_star (length (b ∷ bytes)) (encode_lower (b ∷ bytes)) (omega (arith, length-encode_with lower_digits (b ∷ bytes))) (IsPrintable-hex (b ∷ bytes) fits) in
          rw (no_star, some_length b bytes) (rw plain (rw (bytes_again (b ∷ bytes) fits, no_star) (itself_size (length (b ∷ bytes)) (b ∷ bytes))))
    ]

pub content_printable : (bytes : List ℕ) → IsBytes bytes → IsPrintable 42 (content_text bytes)
content_printable bytes fits =
    elim (cases_Bool (is_repeated bytes)) [
      | inl so ↦ rw so ((omega arith, omega arith), weaken 42 48 (encode_lower (take 1 bytes)) (omega arith) (IsPrintable-hex (take 1 bytes) (first_fits bytes fits)))
      | inr other ↦ rw other (weaken 42 45 (hex_text bytes) (omega arith) (hex_printable bytes fits))
    ]
