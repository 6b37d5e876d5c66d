-- How many of a plan's items are copied before one of them.
use Rattle.std.proofs.Common.{◌≡◌, ℕ, zero, suc, ◌+◌, ◌<◌, ◌≤◌, Bool, true, false, cond, List, [], ◌∷◌, length, filter, take, ap, arith}
use Rattle.std.specs.Prelude.{slice_get, IsSomeAnd}
use Rattle.rc_class.specs.Units.{is_copy}
use Rattle.rc_class.specs.declared.item.Item.{Item}

abbrev pub copies : List Item → ℕ
copies items = length (filter (λ item. is_copy item.act) items)

abbrev one_if : Bool → ℕ
one_if true = 1
one_if false = 0

step : (b : Bool) (item : Item) (items : List Item) → length (cond b (item ∷ items) items) ≡ one_if b + length items
step true item items = omega arith
step false item items = omega arith

-- fewer are copied before a copied item than in all
pub copies_before : (items : List Item) (n : ℕ) → IsSomeAnd (slice_get items n) (λ item. is_copy item.act ≡ true) → copies (take n items) < copies items
copies_before [] n is = absurd is
copies_before (item ∷ items) zero is = omega (arith, step (is_copy item.act) item (filter (λ item. is_copy item.act) items), ap one_if is)
copies_before (item ∷ items) (suc n) is =
    omega (arith, copies_before items n is, step (is_copy item.act) item (filter (λ item. is_copy item.act) items), step (is_copy item.act) item (filter (λ item. is_copy item.act) (take n items)))

at_most_one : (b : Bool) → one_if b ≤ 1
at_most_one true = omega arith
at_most_one false = omega arith

pub copies_few : (items : List Item) → copies items ≤ length items
copies_few [] = omega arith
copies_few (item ∷ items) = omega (arith, copies_few items, step (is_copy item.act) item (filter (λ item. is_copy item.act) items), at_most_one (is_copy item.act))
