-- The names of a path, read from its text.
use Rattle.std.proofs.Common.{◌≡◌, ℕ, ◌+◌, ◌<◌, Bool, true, false, not, cond, eqb, ltb, List, [], ◌∷◌, ◌++◌, length, get_or, Option, Some, None, refl, ap, subst, ◌∙◌, arith, inl, inr}
use Rattle.std.specs.Prelude.{All}
use Rattle.std.specs.List.{AllByRecursion, join_with_byte, position, position_or_len, slice_split}
use Rattle.std.proofs.lemmas.Bool.{cases_lt, lt-ltb, ne_eqb, ltb-false, ltb-true, not-false, not-true}
use Rattle.std.proofs.lemmas.List.Elements.{All-from_get_or}
use Rattle.std.proofs.lemmas.List.Splits.{slice_split_at, slice_split_none}
use Rattle.std.proofs.lemmas.List.Sums.{prefix_len_passes}
use Rattle.rc_tree.specs.declared.name.NameErr.{NameErr}
use Rattle.rc_tree.specs.declared.name.NameErr.TheVariants.{Empty, TooLong}
use Rattle.rc_tree.specs.declared.path.PathErr.{PathErr}
use Rattle.rc_tree.specs.declared.path.PathErr.TheVariants.{TooDeep}
use Rattle.rc_tree.specs.Name.{name_fault, is_name_char, bad_place_or_dots}
use Rattle.rc_tree.specs.Path.{fault_at, names_in, parts_fault, path_fault}

abbrev pub AreNamed : List (List ℕ) → Type 0
AreNamed names = AllByRecursion (λ name. name_fault name ≡ None) names

-- Characters of a name

no_bad_place : (cs : List ℕ) (o : Option ℕ) → bad_place_or_dots cs o ≡ None → o ≡ None
no_bad_place cs (Some place) e = absurd cc
no_bad_place cs None e = refl

chosen_else : {A : Type 0} (b : Bool) (x : A) (o : Option A) → cond b (Some x) o ≡ None → o ≡ None
chosen_else true x o e = absurd cc
chosen_else false x o e = e

not_below : {A : Type 0} (b : Bool) (x : A) → cond b (Some x) None ≡ None → b ≡ false
not_below true x e = absurd cc
not_below false x e = refl

name_char_at : (cs : List ℕ) (i : ℕ) → name_fault cs ≡ None → i < length cs → is_name_char (get_or cs i 0) ≡ true
name_char_at cs i named lt =
    let p : ℕ → Bool = λ c. not (is_name_char c) in
    let none : position p cs ≡ None = no_bad_place cs (position p cs) (chosen_else (ltb 255 (length cs)) TooLong _ (chosen_else (eqb (length cs) 0) Empty _ named)) in
    let all = ltb-false (position_or_len p cs) (length cs) (not_below (ltb (position_or_len p cs) (length cs)) (position_or_len p cs) none) in
    let passes = prefix_len_passes (λ c. not (not (is_name_char c))) cs i 0 (omega (arith, all)) in
    not-false (is_name_char (get_or cs i 0)) (not-true (not (is_name_char (get_or cs i 0))) passes)

not_end : (c : ℕ) → is_name_char c ≡ true → c ≡ 92 → ⊥
not_end c is e = (let no : is_name_char 92 ≡ true = subst (λ x. is_name_char x ≡ true) e is in cc)

whole_name : (name : List ℕ) → name_fault name ≡ None → All (λ x. eqb x 92 ≡ false) name
whole_name name named = All-from_get_or (λ x. eqb x 92 ≡ false) name 0 (λ i lt. ne_eqb (get_or name i 0) 92 (not_end (get_or name i 0) (name_char_at name i named lt)))

-- Faults of parts

too_deep : (b : Bool) (later : Option PathErr) → (b ≡ true → ⊥) → cond b later (Some TooDeep) ≡ None → ⊥
too_deep true later never e = never refl
too_deep false later never e = cc

later_none : (n : ℕ) (f : Option NameErr) (later : Option PathErr) → fault_at n f later ≡ None → (f ≡ None) × (later ≡ None)
later_none n (Some err) later e = absurd cc
later_none n None later e = elim (cases_lt n 64) [
  | inl lt ↦ (refl, rw (lt-ltb n 64 lt) at e)
  | inr ge ↦ absurd (too_deep (ltb n 64) later (λ is. (let lt = ltb-true n 64 is in omega (arith, ge, lt))) e)
]

named_from : (n : ℕ) (parts : List (List ℕ)) → parts_fault n parts ≡ None → AreNamed parts
named_from n [] e = tt
named_from n (part ∷ parts) e =
    let here = later_none n (name_fault part) (parts_fault (n + 1) parts) e in
    (here.0, named_from (n + 1) parts here.1)

-- The names in a text of them

split_again : (path : List (List ℕ)) → AreNamed path → 0 < length path → slice_split (λ x. eqb x 92) (join_with_byte 92 path) ≡ path
split_again [] h some = absurd (omega arith)
split_again (name ∷ []) h some = slice_split_none (λ x. eqb x 92) name (whole_name name h.0)
split_again (name ∷ next ∷ path) h some =
    slice_split_at (λ x. eqb x 92) name 92 (join_with_byte 92 (next ∷ path)) (whole_name name h.0) refl ∙ ap (λ rest. name ∷ rest) (split_again (next ∷ path) h.1 (omega arith))

split_some : (cs : List ℕ) → 0 < length cs → names_in cs ≡ slice_split (λ x. eqb x 92) cs
split_some [] some = absurd (omega arith)
split_some (c ∷ cs) some = refl

name_some : (name : List ℕ) → name_fault name ≡ None → 0 < length name
name_some [] named = absurd cc
name_some (c ∷ name) named = omega arith

longer : (a b : List ℕ) → 0 < length a → 0 < length (a ++ b)
longer [] b some = absurd (omega arith)
longer (c ∷ a) b some = omega arith

joined_some : (path : List (List ℕ)) → AreNamed path → 0 < length path → 0 < length (join_with_byte 92 path)
joined_some [] h some = absurd (omega arith)
joined_some (name ∷ []) h some = name_some name h.0
joined_some (name ∷ next ∷ path) h some = longer name (92 ∷ join_with_byte 92 (next ∷ path)) (name_some name h.0)

pub names_again : (path : List (List ℕ)) → path_fault path ≡ None → 0 < length path → names_in (join_with_byte 92 path) ≡ path
names_again path named some =
    let all = named_from 0 path named in
    split_some (join_with_byte 92 path) (joined_some path all some) ∙ split_again path all some
