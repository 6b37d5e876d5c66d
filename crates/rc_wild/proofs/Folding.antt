-- A match sees a text by its folded characters alone.
use Rattle.std.proofs.Common.{◌≡◌, ℕ, suc, Bool, ◌||◌, ◌&&◌, not, cond, List, [], ◌∷◌, length, ◌==◌, refl, ap, ◌∙◌}
use Rattle.std.specs.List.{list_any}
use Rattle.unicode.specs.CaseFolding.{simple_fold}
use Rattle.unicode.proofs.BoundLemmas.{simple_fold_idem}
use Rattle.rc_tree.specs.Name.{folded}
use Rattle.rc_tree.specs.Path.{key_of}
use Rattle.rc_wild.specs.Pattern.{stands_for, some_end, first_and_rest, matches_text, read_as, matches_name}
use Rattle.rc_wild.specs.PathPattern.{matches_part, matches_parts}

-- a test sees a text by its folded characters
abbrev IsFolding : (List ℕ → Bool) → Type 0
IsFolding test = (text : List ℕ) → test (folded text) ≡ test text

stands_for-fold : (c x : ℕ) → stands_for c (simple_fold x) ≡ stands_for c x
stands_for-fold c x = ap (λ y. c == 63 || simple_fold c == y) (simple_fold_idem x)

some_end-folded : (test : List ℕ → Bool) → IsFolding test → IsFolding (some_end test)
some_end-folded test h [] = h []
some_end-folded test h (x ∷ xs) =
    ap (λ b. b || some_end test (folded xs)) (h (x ∷ xs)) ∙ ap (λ b. test (x ∷ xs) || b) (some_end-folded test h xs)

first_and_rest-folded : (c : ℕ) (test : List ℕ → Bool) → IsFolding test → IsFolding (first_and_rest (stands_for c) test)
first_and_rest-folded c test h [] = refl
first_and_rest-folded c test h (x ∷ xs) =
    ap (λ b. b && test (folded xs)) (stands_for-fold c x) ∙ ap (λ b. stands_for c x && b) (h xs)

length-folded : (text : List ℕ) → length (folded text) ≡ length text
length-folded [] = refl
length-folded (x ∷ xs) = ap (λ n. suc n) (length-folded xs)

pub text-folded : (cs : List ℕ) → IsFolding (matches_text cs)
text-folded [] text = ap (λ n. n == 0) (length-folded text)
text-folded (c ∷ cs) text =
    ap (λ b. cond (c == 42) b (first_and_rest (stands_for c) (matches_text cs) (folded text))) (some_end-folded (matches_text cs) (text-folded cs) text)
    ∙ ap (λ b. cond (c == 42) (some_end (matches_text cs) text) b) (first_and_rest-folded c (matches_text cs) (text-folded cs) text)

pub name-folded : (pattern name : List ℕ) → matches_name pattern (folded name) ≡ matches_name pattern name
unfolding matches_name
name-folded pattern name = text-folded (read_as pattern) name

pub parts-folded : (parts names : List (List ℕ)) → matches_parts parts (key_of names) ≡ matches_parts parts names
parts-folded [] [] = refl
parts-folded [] (name ∷ names) = refl
parts-folded (part ∷ parts) [] = refl
parts-folded (part ∷ parts) (name ∷ names) =
    ap (λ b. (not (list_any (λ c. c == 58) part) && b) && matches_parts parts (key_of names)) (name-folded part name)
    ∙ ap (λ b. matches_part part name && b) (parts-folded parts names)
