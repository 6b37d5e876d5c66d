-- Elements of lists that are looked up: of changed lists, of lists one behind the other, and of numbered ones.
use Rattle.std.proofs.Common.{◌≡◌, ◌≢◌, ℕ, zero, suc, ◌+◌, ◌<◌, List, [], ◌∷◌, ◌++◌, length, refl, sym, ap, subst, ◌∙◌, ◌⊎◌, inl, inr, arith}
use Rattle.std.specs.Prelude.{Option, Some, None, option_map, slice_get, slice_set, All}
use Rattle.std.proofs.lemmas.Option.{slice_get_within, get_or_from_slice_get}

pub some_none : {A : Type 0} (x : A) → None ≡ Some x → ⊥
some_none x e = cc

pub same_some : {A : Type 0} (x y : A) → Some x ≡ Some y → x ≡ y
same_some x y e = cc

-- what is looked up twice is one
pub one : {A : Type 0} (o : Option A) (x y : A) → o ≡ Some x → o ≡ Some y → x ≡ y
one o x y p q = cc

-- what stands in a list with one element changed
pub set_cases : {A : Type 0} (xs : List A) (i j : ℕ) (y x : A) → slice_get (slice_set xs i y) j ≡ Some x → ((j ≡ i) × (y ≡ x)) ⊎ ((j ≢ i) × (slice_get xs j ≡ Some x))
set_cases [] i j y x e = absurd (some_none x e)
set_cases (z ∷ xs) zero zero y x e = inl (refl, same_some y x e)
set_cases (z ∷ xs) zero (suc j) y x e = inr ((λ q. omega (arith, q)), e)
set_cases (z ∷ xs) (suc i) zero y x e = inr ((λ q. omega (arith, q)), e)
set_cases (z ∷ xs) (suc i) (suc j) y x e = elim (set_cases xs i j y x e) [
  | inl same ↦ inl (ap suc same.0, same.1)
  | inr other ↦ inr ((λ q. other.0 (omega (arith, q))), other.1)
]

-- a lookup that a change keeps
pub map_set : {A B : Type 0} (f : A → B) (xs : List A) (i : ℕ) (x y : A) (j : ℕ) → slice_get xs i ≡ Some x → f y ≡ f x → option_map f (slice_get (slice_set xs i y) j) ≡ option_map f (slice_get xs j)
map_set f [] i x y j is same = refl
map_set f (z ∷ xs) zero x y zero is same = ap Some (same ∙ ap f (sym (same_some z x is)))
map_set f (z ∷ xs) zero x y (suc j) is same = refl
map_set f (z ∷ xs) (suc i) x y zero is same = refl
map_set f (z ∷ xs) (suc i) x y (suc j) is same = map_set f xs i x y j is same

-- a lookup that ends well, as one of the changed element
pub mapped : {A B : Type 0} (f : A → B) (o : Option A) (y : B) → option_map f o ≡ Some y → (x : A) × (o ≡ Some x) × (f x ≡ y)
mapped f None y e = absurd (some_none y e)
mapped f (Some x) y e = (x, refl, same_some (f x) y e)

-- one list behind the other
pub append_cases : {A : Type 0} (xs ys : List A) (j : ℕ) (x : A) → slice_get (xs ++ ys) j ≡ Some x → ((j < length xs) × (slice_get xs j ≡ Some x)) ⊎ ((k : ℕ) × (j ≡ length xs + k) × (slice_get ys k ≡ Some x))
append_cases [] ys j x e = inr (j, omega arith, e)
append_cases (z ∷ xs) ys zero x e = inl (omega arith, e)
append_cases (z ∷ xs) ys (suc j) x e = elim (append_cases xs ys j x e) [
  | inl front ↦ inl (omega (arith, front.0), front.1)
  | inr back ↦ inr (back.0, omega (arith, back.1), back.2)
]

pub front : {A : Type 0} (xs ys : List A) (j : ℕ) (x : A) → slice_get xs j ≡ Some x → slice_get (xs ++ ys) j ≡ Some x
front [] ys j x e = absurd (some_none x e)
front (z ∷ xs) ys zero x e = e
front (z ∷ xs) ys (suc j) x e = front xs ys j x e

pub back : {A : Type 0} (xs ys : List A) (n k : ℕ) (x : A) → n ≡ length xs → slice_get ys k ≡ Some x → slice_get (xs ++ ys) (n + k) ≡ Some x
back [] ys n k x at e = subst (λ i. slice_get ys i ≡ Some x) (omega (arith, at)) e
back (z ∷ xs) ys n k x at e =
    let later : suc (length xs + k) ≡ n + k = omega (arith, at) in
    subst (λ i. slice_get (z ∷ xs ++ ys) i ≡ Some x) later (back xs ys (length xs) k x refl e)

-- an element that is looked up, of a list of which each one has a property
pub at : {A : Type 0} (P : A → Type 0) (xs : List A) (j : ℕ) (x : A) → All P xs → slice_get xs j ≡ Some x → P x
at P xs j x all e = subst P (get_or_from_slice_get xs j x x e) (all j x (slice_get_within xs j x e))

pub first_of_all : {A : Type 0} (P : A → Type 0) (x : A) (xs : List A) → All P (x ∷ xs) → P x
first_of_all P x xs all = all 0 x (omega arith)

pub rest_of_all : {A : Type 0} (P : A → Type 0) (x : A) (xs : List A) → All P (x ∷ xs) → All P xs
rest_of_all P x xs all k d below = all (suc k) d (omega (arith, below))
