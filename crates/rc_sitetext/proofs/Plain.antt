-- Texts without control characters: they hold no tab and no line end.
use Rattle.std.proofs.Common.{◌≡◌, ◌≢◌, ℕ, zero, suc, ◌<◌, ◌≤◌, Bool, true, false, not, cond, eqb, leb, ltb, List, [], ◌∷◌, ◌++◌, length, get_or, Option, Some, None, refl, arith, inl, inr}
use Rattle.std.specs.Prelude.{All, codes}
use Rattle.std.specs.List.{AllByRecursion, position, position_or_len, list_any}
use Rattle.std.specs.Str.{encode_utf8_all}
use Rattle.std.specs.Str.Parse.{AllDigits}
use Rattle.std.proofs.lemmas.Bool.{cases_lt, leb-true, ltb-false, and_parts, not-false, not-true}
use Rattle.std.proofs.lemmas.List.{get_or_append_left}
use Rattle.std.proofs.lemmas.List.Elements.{All-from_get_or, recursion_from_All}
use Rattle.std.proofs.lemmas.List.Sums.{prefix_len_passes}
use Rattle.std.proofs.lemmas.Str.{inside_one}
use Rattle.std.proofs.lemmas.Str.Parse.{digit_from_value}
use lib.Utf8.{encode}
use Rattle.rc_tree.specs.Name.{name_fault, is_name_char, bad_place_or_dots}
use Rattle.rc_tree.specs.declared.name.NameErr.TheVariants.{Empty, TooLong}

unfoldable pub IsPlain : List ℕ → Type 0
IsPlain text = AllByRecursion (λ b. 32 ≤ b) text

pub IsPlain-append : (a b : List ℕ) → IsPlain a → IsPlain b → IsPlain (a ++ b)
unfolding IsPlain
IsPlain-append [] b p q = q
IsPlain-append (c ∷ a) b p q = (p.0, IsPlain-append a b p.1 q)

pub IsPlain-cons : (c : ℕ) (text : List ℕ) → 32 ≤ c → IsPlain text → IsPlain (c ∷ text)
unfolding IsPlain
IsPlain-cons c text p q = (p, q)

pub IsPlain-nil : IsPlain []
unfolding IsPlain
IsPlain-nil = tt

pub plain_at : (text : List ℕ) (i : ℕ) → IsPlain text → i < length text → 32 ≤ get_or text i 0
unfolding IsPlain
plain_at [] i p lt = absurd (omega arith)
plain_at (c ∷ text) zero p lt = p.0
plain_at (c ∷ text) (suc i) p lt = plain_at text i p.1 (omega arith)

-- a control character is not in it
pub IsPlain-without : (text : List ℕ) (c : ℕ) → c < 32 → IsPlain text → (i : ℕ) → i < length text → get_or text i 0 ≢ c
IsPlain-without text c low p i lt = λ e. omega (arith, plain_at text i p lt, e)

from_all : (text : List ℕ) → All (λ b. 32 ≤ b) text → IsPlain text
unfolding IsPlain
from_all text all = recursion_from_All (λ b. 32 ≤ b) text all

pub from_places : (text : List ℕ) → ((i : ℕ) → i < length text → 32 ≤ get_or text i 0) → IsPlain text
from_places text each = from_all text (All-from_get_or (λ b. 32 ≤ b) text 0 each)

pub IsPlain-digits : (ds : List ℕ) → AllDigits 10 ds → IsPlain ds
unfolding IsPlain
IsPlain-digits [] h = tt
IsPlain-digits (c ∷ ds) h = (omega (arith, digit_from_value c h.0), IsPlain-digits ds h.1)

-- Names

no_bad_place : (cs : List ℕ) (o : Option ℕ) → bad_place_or_dots cs o ≡ None → o ≡ None
no_bad_place cs (Some place) e = absurd cc
no_bad_place cs None e = refl

chosen_else : {A : Type 0} (b : Bool) (x : A) (o : Option A) → cond b (Some x) o ≡ None → o ≡ None
chosen_else true x o e = absurd cc
chosen_else false x o e = e

not_below : {A : Type 0} (b : Bool) (x : A) → cond b (Some x) None ≡ None → b ≡ false
not_below true x e = absurd cc
not_below false x e = refl

is_high : (c : ℕ) → is_name_char c ≡ true → 32 ≤ c
is_high c h = leb-true 32 c (and_parts (leb 32 c) (not (list_any (λ bad. eqb c bad) (codes "\\/:*?\"<>|"))) h).0

pub name_char_at : (cs : List ℕ) (i : ℕ) → name_fault cs ≡ None → i < length cs → is_name_char (get_or cs i 0) ≡ true
name_char_at cs i named lt =
    let p : ℕ → Bool = λ c. not (is_name_char c) in
    let none : position p cs ≡ None = no_bad_place cs (position p cs) (chosen_else (ltb 255 (length cs)) TooLong _ (chosen_else (eqb (length cs) 0) Empty _ named)) in
    let all = ltb-false (position_or_len p cs) (length cs) (not_below (ltb (position_or_len p cs) (length cs)) (position_or_len p cs) none) in
    let passes = prefix_len_passes (λ c. not (not (is_name_char c))) cs i 0 (omega (arith, all)) in
    not-false (is_name_char (get_or cs i 0)) (not-true (not (is_name_char (get_or cs i 0))) passes)

name_chars : (cs : List ℕ) (i : ℕ) → name_fault cs ≡ None → i < length cs → 32 ≤ get_or cs i 0
name_chars cs i named lt = is_high (get_or cs i 0) (name_char_at cs i named lt)

IsPlain-encode : (c : ℕ) → 32 ≤ c → IsPlain (encode c)
IsPlain-encode c low =
    from_places (encode c)
    (λ i lt.
    elim (cases_lt (get_or (encode c) i 0) 128) [
      | inl small ↦ let e = inside_one c [] (encode c ++ []) i refl lt (omega (arith, get_or_append_left (encode c) [] 0 i lt)) in omega (arith, e, get_or_append_left (encode c) [] 0 i lt)
      | inr big ↦ omega (arith, big)
    ])

pub encodes_plain : (cs : List ℕ) → AllByRecursion (λ c. 32 ≤ c) cs → IsPlain (encode_utf8_all cs)
encodes_plain [] h = IsPlain-nil
encodes_plain (c ∷ cs) h = IsPlain-append (encode c) (encode_utf8_all cs) (IsPlain-encode c h.0) (encodes_plain cs h.1)

pub high_name : (cs : List ℕ) → name_fault cs ≡ None → AllByRecursion (λ c. 32 ≤ c) cs
high_name cs named = recursion_from_All (λ c. 32 ≤ c) cs (All-from_get_or (λ c. 32 ≤ c) cs 0 (λ i lt. name_chars cs i named lt))
