-- Paths as texts: what is read is spelled so, and what is spelled so is read.
use Rattle.std.proofs.Common.{◌≡◌, ℕ, ◌+◌, ◌<◌, ◌≤◌, Bool, true, false, ◌&&◌, cond, eqb, ltb, List, [], ◌∷◌, ◌++◌, length, get_or, Option, Some, None, refl, sym, ap, subst, ◌∙◌, arith, inl, inr}
use Rattle.std.specs.Prelude.{All, is_none, chars}
use Rattle.std.specs.List.{AllByRecursion, join_with_byte, onto_first, slice_split}
use Rattle.std.specs.Str.{IsUtf8, is_utf8, all_scalars, encode_utf8_all}
use Rattle.std.proofs.lemmas.Bool.{cases_lt, ne_eqb, and_parts, and_from, lt-ltb, ltb-true}
use Rattle.std.proofs.lemmas.List.Elements.{All-from_get_or}
use Rattle.std.proofs.lemmas.List.Splits.{slice_split_at, slice_split_none, join_with_byte-slice_split}
use Rattle.std.proofs.lemmas.Str.{IsUtf8-from_is_utf8, is_utf8-from_IsUtf8, encodes-chars, scalars-chars, chars-encodes}
use lib.Utf8.{scalar}
use Rattle.rc_tree.specs.declared.name.NameErr.{NameErr}
use Rattle.rc_tree.specs.declared.path.PathErr.{PathErr}
use Rattle.rc_tree.specs.declared.path.PathErr.TheVariants.{TooDeep}
use Rattle.rc_tree.specs.Name.{name_fault, is_name_char}
use Rattle.rc_tree.specs.Path.{fault_at, last_name, names_in, parts_fault, path_fault}
use Rattle.rc_sitetext.specs.SiteText.{path_text}
use Rattle.rc_sitetext.specs.Reading.{are_names, path_at}
use Rattle.rc_sitetext.proofs.Plain.{encodes_plain, high_name, name_char_at}
use Rattle.rc_sitetext.proofs.Spells.{IsField, some_is, if_some}

abbrev pub AreTexts : List (List ℕ) → Type 0
AreTexts names = AllByRecursion (λ name. all_scalars name ≡ true) names

abbrev pub AreNamed : List (List ℕ) → Type 0
AreNamed names = AllByRecursion (λ name. name_fault name ≡ None) names

-- the path of an entry
pub record IsPathText (path : List (List ℕ)) : Type 0 where
  pub characters : AreTexts path
  pub named : AreNamed path
  pub some : 0 < length path
  pub depth : length path ≤ 64

-- Faults of parts

too_deep : (b : Bool) (later : Option PathErr) → (b ≡ true → ⊥) → cond b later (Some TooDeep) ≡ None → ⊥
too_deep true later never e = never refl
too_deep false later never e = cc

later_none : (n : ℕ) (f : Option NameErr) (later : Option PathErr) → fault_at n f later ≡ None → (f ≡ None) × (n < 64) × (later ≡ None)
later_none n (Some err) later e = absurd cc
later_none n None later e = elim (cases_lt n 64) [
  | inl lt ↦ (refl, lt, rw (lt-ltb n 64 lt) at e)
  | inr ge ↦ absurd (too_deep (ltb n 64) later (λ is. (let lt = ltb-true n 64 is in omega (arith, ge, lt))) e)
]

pub named_from : (n : ℕ) (parts : List (List ℕ)) → parts_fault n parts ≡ None → AreNamed parts × (0 < length parts → n + length parts ≤ 64)
named_from n [] e = (tt, λ some. omega arith)
named_from n (part ∷ parts) e =
    let here = later_none n (name_fault part) (parts_fault (n + 1) parts) e in
    let rest = named_from (n + 1) parts here.2 in (
      (here.0, rest.0),
      λ some. elim (cases_lt 0 (length parts)) [
        | inl more ↦ omega (arith, rest.1 more)
        | inr none ↦ omega (arith, here.1, none)
      ],
    )

pub named_to : (n : ℕ) (parts : List (List ℕ)) → AreNamed parts → n + length parts ≤ 64 → parts_fault n parts ≡ None
named_to n [] named le = refl
named_to n (part ∷ parts) named le = rw (named.0, lt-ltb n 64 (omega (arith, le))) (named_to (n + 1) parts named.1 (omega (arith, le)))

-- Characters

scalars-append : (a b : List ℕ) → all_scalars a ≡ true → all_scalars b ≡ true → all_scalars (a ++ b) ≡ true
scalars-append [] b p q = q
scalars-append (c ∷ a) b p q = let both = and_parts (scalar c) (all_scalars a) p in and_from (scalar c) (all_scalars (a ++ b)) both.0 (scalars-append a b both.1 q)

joined_scalars : (path : List (List ℕ)) → AreTexts path → all_scalars (join_with_byte 92 path) ≡ true
joined_scalars [] h = refl
joined_scalars (name ∷ []) h = h.0
joined_scalars (name ∷ next ∷ path) h = scalars-append name (92 ∷ join_with_byte 92 (next ∷ path)) h.0 (joined_scalars (next ∷ path) h.1)

onto_texts : (c : ℕ) (parts : List (List ℕ)) → scalar c ≡ true → AreTexts parts → AreTexts (onto_first c parts)
onto_texts c [] is h = (and_from (scalar c) true is refl, tt)
onto_texts c (part ∷ parts) is h = (and_from (scalar c) (all_scalars part) is h.0, h.1)

split_choice : (b : Bool) (c : ℕ) (parts : List (List ℕ)) → scalar c ≡ true → AreTexts parts → AreTexts (cond b ([] ∷ parts) (onto_first c parts))
split_choice true c parts is h = (refl, h)
split_choice false c parts is h = onto_texts c parts is h

split_texts : (cs : List ℕ) → all_scalars cs ≡ true → AreTexts (slice_split (λ x. eqb x 92) cs)
split_texts [] h = (refl, tt)
split_texts (c ∷ cs) h = let both = and_parts (scalar c) (all_scalars cs) h in split_choice (eqb c 92) c (slice_split (λ x. eqb x 92) cs) both.0 (split_texts cs both.1)

names_texts : (cs : List ℕ) → all_scalars cs ≡ true → AreTexts (names_in cs)
names_texts [] h = tt
names_texts (c ∷ cs) h = split_texts (c ∷ cs) h

joined_high : (path : List (List ℕ)) → AreNamed path → AllByRecursion (λ c. 32 ≤ c) (join_with_byte 92 path)
joined_high [] h = tt
joined_high (name ∷ []) h = high_name name h.0
joined_high (name ∷ next ∷ path) h = both name (92 ∷ join_with_byte 92 (next ∷ path)) (high_name name h.0) (omega arith, joined_high (next ∷ path) h.1)
  where
    both : (a b : List ℕ) → AllByRecursion (λ c. 32 ≤ c) a → AllByRecursion (λ c. 32 ≤ c) b → AllByRecursion (λ c. 32 ≤ c) (a ++ b)
    both [] b p q = q
    both (c ∷ a) b p q = (p.0, both a b p.1 q)

-- Names in a text

join_names : (cs : List ℕ) → 0 < length (names_in cs) → join_with_byte 92 (names_in cs) ≡ cs
join_names [] some = absurd (omega arith)
join_names (c ∷ cs) some = join_with_byte-slice_split 92 (c ∷ cs)

not_end : (c : ℕ) → is_name_char c ≡ true → c ≡ 92 → ⊥
not_end c is e = (let no : is_name_char 92 ≡ true = subst (λ x. is_name_char x ≡ true) e is in cc)

whole_name : (name : List ℕ) → name_fault name ≡ None → All (λ x. eqb x 92 ≡ false) name
whole_name name named = All-from_get_or (λ x. eqb x 92 ≡ false) name 0 (λ i lt. ne_eqb (get_or name i 0) 92 (not_end (get_or name i 0) (name_char_at name i named lt)))

split_again : (path : List (List ℕ)) → AreNamed path → 0 < length path → slice_split (λ x. eqb x 92) (join_with_byte 92 path) ≡ path
split_again [] h some = absurd (omega arith)
split_again (name ∷ []) h some = slice_split_none (λ x. eqb x 92) name (whole_name name h.0)
split_again (name ∷ next ∷ path) h some =
    slice_split_at (λ x. eqb x 92) name 92 (join_with_byte 92 (next ∷ path)) (whole_name name h.0) refl ∙ ap (λ rest. name ∷ rest) (split_again (next ∷ path) h.1 (omega arith))

-- a text with a character
split_some : (cs : List ℕ) → 0 < length cs → names_in cs ≡ slice_split (λ x. eqb x 92) cs
split_some [] some = absurd (omega arith)
split_some (c ∷ cs) some = refl

name_some : (name : List ℕ) → name_fault name ≡ None → 0 < length name
name_some [] named = absurd cc
name_some (c ∷ name) named = omega arith

joined_some : (path : List (List ℕ)) → AreNamed path → 0 < length path → 0 < length (join_with_byte 92 path)
joined_some [] h some = absurd (omega arith)
joined_some (name ∷ []) h some = name_some name h.0
joined_some (name ∷ next ∷ path) h some = longer name (92 ∷ join_with_byte 92 (next ∷ path)) (name_some name h.0)
  where
    longer : (a b : List ℕ) → 0 < length a → 0 < length (a ++ b)
    longer [] b some = absurd (omega arith)
    longer (c ∷ a) b some = omega arith

names_again : (path : List (List ℕ)) → AreNamed path → 0 < length path → names_in (join_with_byte 92 path) ≡ path
names_again path h some = split_some (join_with_byte 92 path) (joined_some path h some) ∙ split_again path h some

none_is : {A : Type 0} (o : Option A) → is_none o ≡ true → o ≡ None
none_is (Some x) e = absurd cc
none_is None e = refl

pub path_read : (text : List ℕ) (path : List (List ℕ)) → IsUtf8 text → path ≡ names_in (chars text) → path_fault (names_in (chars text)) ≡ None → 0 < length path → path_at text ≡ Some path
unfolding path_at
path_read text path utf8 is named some = rw (is_utf8-from_IsUtf8 text utf8, named, lt-ltb 0 (length (names_in (chars text))) (subst (λ p. 0 < length p) is some)) (ap Some (sym is))

pub path_field : IsField path_at path_text IsPathText
unfolding path_at
path_field =
    record {
      takes = λ text path e.
          let a = if_some (is_utf8 text && are_names (names_in (chars text))) (Some (names_in (chars text))) path e in
          let both = and_parts (is_utf8 text) (are_names (names_in (chars text))) a.0 in
          let names = and_parts (is_none (path_fault (names_in (chars text)))) (ltb 0 (length (names_in (chars text)))) both.1 in
          let utf8 = IsUtf8-from_is_utf8 text both.0 in
          let some = ltb-true 0 (length (names_in (chars text))) names.1 in
          let is : names_in (chars text) ≡ path = some_is (names_in (chars text)) path a.1 in
          let named = named_from 0 (names_in (chars text)) (none_is (path_fault (names_in (chars text))) names.0) in (
            sym (encodes-chars text utf8) ∙ ap encode_utf8_all (sym (join_names (chars text) some)) ∙ ap path_text is,
            subst IsPathText is (record { characters = names_texts (chars text) (scalars-chars text utf8); named = named.0; some = some; depth = omega (arith, named.1 some) }),
          );
      again = λ path fits.
          let scalars = joined_scalars path fits.characters in
          let utf8 = is_utf8-from_IsUtf8 (path_text path) (join_with_byte 92 path, (scalars, refl)) in
          let back : names_in (chars (path_text path)) ≡ path = ap names_in (chars-encodes (join_with_byte 92 path) scalars) ∙ names_again path fits.named fits.some in
          rw (utf8, back, named_to 0 path fits.named (omega (arith, fits.depth)), lt-ltb 0 (length path) fits.some) refl;
      plain = λ path fits. encodes_plain (join_with_byte 92 path) (joined_high path fits.named);
      utf8 = λ path fits. (join_with_byte 92 path, (joined_scalars path fits.characters, refl));
    }

-- what holds of all names holds of the last
pub last_is : (P : List ℕ → Type 0) (path : List (List ℕ)) → AllByRecursion P path → 0 < length path → P (last_name path)
last_is P [] h some = absurd (omega arith)
last_is P (name ∷ []) h some = h.0
last_is P (name ∷ next ∷ path) h some = last_is P (next ∷ path) h.1 (omega arith)
