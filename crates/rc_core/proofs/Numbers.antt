-- Tests of the elements of a list, one number after another.
use Rattle.std.proofs.Common.{◌≡◌, ℕ, zero, suc, ◌+◌, ◌<◌, ◌≤◌, Bool, true, false, ◌&&◌, List, [], ◌∷◌, ◌-◌, drop, get_or, length, take, refl, sym, ap, subst, ◌∙◌, ◌⊎◌, inl, inr, arith, true≢false}
use Rattle.std.proofs.lemmas.Bool.{cases_lt}
use Rattle.std.proofs.lemmas.List.{take_rest}
use Rattle.std.specs.Prelude.{Option, Some, IsSomeAnd, IsTrue, ◌↔◌, Contains, slice_get}
use Rattle.rc_tree.specs.Tree.{Node}
use Rattle.rc_core.specs.Stops.{Stood}
use Rattle.rc_core.proofs.Found.{both_true}

-- By their numbers

-- it holds of all elements, or of those with a lesser number
abbrev pub Each : {A : Type 0} → (ℕ → A → Type 0) → List A → Type 0
Each {A} holds xs = (i : ℕ) (x : A) → slice_get xs i ≡ Some x → holds i x

abbrev pub Below : {A : Type 0} → (ℕ → A → Type 0) → List A → ℕ → Type 0
Below {A} holds xs n = (i : ℕ) (x : A) → i < n → slice_get xs i ≡ Some x → holds i x

-- What stood, and what is contained

pub contained_later : {A : Type 0} (y : A) (xs : List A) (x : A) → Contains xs x → Contains (y ∷ xs) x
contained_later y xs x is = (suc is.0, omega (arith, is.1), is.2)

pub contained_cases : {A : Type 0} (y : A) (xs : List A) (x : A) → Contains (y ∷ xs) x → (y ≡ x) ⊎ Contains xs x
contained_cases y xs x (zero, below, is) = inl is
contained_cases y xs x (suc k, below, is) = inr (k, omega (arith, below), is)

pub stood_later : (o : Option Node) (had : List (Option Node)) (holds : Node → Type 0) → Stood had holds → Stood (o ∷ had) holds
stood_later o had holds stood = (stood.0, contained_later o had (Some stood.0) stood.1, stood.2)

pub stood_cases : (o : Option Node) (had : List (Option Node)) (holds : Node → Type 0) → Stood (o ∷ had) holds → IsSomeAnd o holds ⊎ Stood had holds
stood_cases o had holds stood = elim (contained_cases o had (Some stood.0) stood.1) [
  | inl here ↦ inl (subst (λ o. IsSomeAnd o holds) (sym here) stood.2)
  | inr later ↦ inr (stood.0, later, stood.2)
]

-- Tests

-- a fact of a list that is tested from the front: what is left tells it all
abbrev pub Tells : Type 0 → Type 0 → Type 0
Tells all left = (all → left) × (left → all)

pub step_stood : (all : Type 0) (rest : List (Option Node)) (first : Option Node) (later : List (Option Node)) (holds : Node → Type 0) (b : Bool) → rest ≡ first ∷ later → Tells all (Stood rest holds) → IsTrue b ↔ IsSomeAnd first holds → b ≡ false → Tells all (Stood later holds)
step_stood all rest first later holds b is tells test fails = (
  (λ a. elim (stood_cases first later holds (subst (λ xs. Stood xs holds) is (tells.0 a))) [
    | inl here ↦ absurd (true≢false (sym (test.1 here) ∙ fails))
    | inr behind ↦ behind
  ]),
  (λ behind. tells.1 (subst (λ xs. Stood xs holds) (sym is) (stood_later first later holds behind))),
)

-- what a list begins with, and what it has behind that
pub begins : {A : Type 0} (xs : List A) (first : A) → 1 ≤ length xs → first ≡ get_or xs 0 first → xs ≡ first ∷ take (length xs - 1) (drop 1 xs)
begins [] first some is = absurd (omega (arith, some))
begins (x ∷ xs) first some is = ap (λ y. y ∷ xs) (sym is) ∙ ap (λ rest. first ∷ rest) (sym (take_rest (x ∷ xs) 1))

-- where the first test fails the second decides
pub second_decides : (a b : Bool) (A B C : Type 0) → IsTrue a ↔ A → IsTrue b ↔ B → a ≡ false → (B → C) → (C → A ⊎ B) → IsTrue b ↔ C
second_decides a b A B C first second fails there cases = (
  (λ e. there (second.0 e)),
  (λ c. elim (cases c) [ inl x ↦ absurd (true≢false (sym (first.1 x) ∙ fails)) | inr y ↦ second.1 y ]),
)

-- what a test that is over says of all
pub refused : (All : Type 0) → (All → ⊥) → IsTrue false ↔ All
refused All not_all = ((λ e. absurd (true≢false (sym e))), (λ all. absurd (not_all all)))

pub passed : (All : Type 0) → All → IsTrue true ↔ All
passed All all = ((λ _. all), (λ _. refl))

pub not_so : (b : Bool) (A : Type 0) → IsTrue b ↔ A → b ≡ false → A → ⊥
not_so b A test fails a = true≢false (sym (test.1 a) ∙ fails)

-- of all numbers
pub number_more : (holds : ℕ → Type 0) (n : ℕ) → ((at : ℕ) → at < n → holds at) → holds n → (at : ℕ) → at < n + 1 → holds at
number_more holds n below here at less = elim (cases_lt at n) [
  | inl before ↦ below at before
  | inr behind ↦ subst holds (omega (arith, behind, less)) here
]

-- A node, by its aspects

pub all_five : (a b c d e : Bool) (A B C D E F : Type 0) → IsTrue a ↔ A → IsTrue b ↔ B → IsTrue c ↔ C → IsTrue d ↔ D → IsTrue e ↔ E → (A → B → C → D → E → F) → (F → A × B × C × D × E) → IsTrue (a && b && c && d && e) ↔ F
all_five a b c d e A B C D E F p q r s t make parts = (
  (λ all.
      let four = both_true (a && b && c && d) e all in
      let three = both_true (a && b && c) d four.0 in
      let two = both_true (a && b) c three.0 in
      let one = both_true a b two.0 in
      make (p.0 one.0) (q.0 one.1) (r.0 two.1) (s.0 three.1) (t.0 four.1)),
  (λ f. let of = parts f in tests a b c d e (p.1 of.0) (q.1 of.1) (r.1 of.2) (s.1 of.3) (t.1 of.4)),
)
  where
    tests : (a b c d e : Bool) → a ≡ true → b ≡ true → c ≡ true → d ≡ true → e ≡ true → a && b && c && d && e ≡ true
    tests a b c d e p q r s t = ap (λ x. x && b && c && d && e) p ∙ ap (λ x. x && c && d && e) q ∙ ap (λ x. x && d && e) r ∙ ap (λ x. x && e) s ∙ t
