-- The order of keys as lists: common fronts, and fronts of a given length.
use Rattle.std.proofs.Common.{◌≡◌, ◌≢◌, ℕ, zero, suc, true, false, List, [], ◌∷◌, ◌++◌, length, take, refl, sym, ap, ◌∙◌}
use Rattle.std.specs.Ordering.{is_gt, is_eq, is_le, is_lt, ordering_then, ordering_reverse}
use Rattle.std.specs.Cmp.{IsTotalOrder, tied_itself}
use Rattle.std.specs.Cmp.Lexicographic.{slice_cmp, lists_total}
use Rattle.std.specs.declared.cmp.Ordering.{Ordering}
use Rattle.std.specs.declared.cmp.Ordering.TheVariants.{Less, Equal, Greater}

-- above is not not above
pub gt-from_greater : (r : Ordering) → r ≡ Greater → is_gt r ≡ false → ⊥
gt-from_greater Less e h = cc
gt-from_greater Equal e h = cc
gt-from_greater Greater e h = cc

-- at most is not above
pub not_gt-from_le : (r : Ordering) → is_le r ≡ true → is_gt r ≡ false
not_gt-from_le Less h = refl
not_gt-from_le Equal h = refl
not_gt-from_le Greater h = cc

-- and the other way round
pub le-from_not_gt : (r : Ordering) → is_gt r ≡ false → is_le r ≡ true
le-from_not_gt Less h = refl
le-from_not_gt Equal h = refl
le-from_not_gt Greater h = cc

-- what is not at most is above
pub greater-from_not_le : (r : Ordering) → is_le r ≡ false → r ≡ Greater
greater-from_not_le Less h = cc
greater-from_not_le Equal h = cc
greater-from_not_le Greater h = refl

-- what passes the test for a tie ties
pub equal-from_eq : (r : Ordering) → is_eq r ≡ true → r ≡ Equal
equal-from_eq Less h = cc
equal-from_eq Equal h = refl
equal-from_eq Greater h = cc

-- what does not tie fails the test for a tie
pub not_eq-apart : (r : Ordering) → (r ≢ Equal) → is_eq r ≡ false
not_eq-apart Less not = refl
not_eq-apart Equal not = absurd (not refl)
not_eq-apart Greater not = refl

-- what passes the test for below is below
pub less-from_test : (r : Ordering) → is_lt r ≡ true → r ≡ Less
less-from_test Less h = refl
less-from_test Equal h = cc
less-from_test Greater h = cc

-- neither above nor below
pub level : (r : Ordering) → is_gt r ≡ false → is_gt (ordering_reverse r) ≡ false → r ≡ Equal
level Less h g = cc
level Equal h g = refl
level Greater h g = cc

-- a comparison the other way round
pub turned : {K : Type 0} {R : K → K → Ordering} → IsTotalOrder R → (x y : K) (r : Ordering) → R x y ≡ r → R y x ≡ ordering_reverse r
turned o x y r e = o.antisymm y x ∙ ap ordering_reverse e

-- what is not above is not above
pub not_greater : (r : Ordering) → is_gt r ≡ false → r ≡ Greater → ⊥
not_greater r h e = gt-from_greater r e h

-- neither above nor below
pub level_if : (r : Ordering) → is_gt r ≡ false → (r ≢ Less) → r ≡ Equal
level_if Less h not = absurd (not refl)
level_if Equal h not = refl
level_if Greater h not = cc

module _ {K : Type 0} {R : K → K → Ordering} (o : IsTotalOrder R) where
  -- a common front tells nothing
  pub cmp-append : (front xs ys : List K) → slice_cmp R (front ++ xs) (front ++ ys) ≡ slice_cmp R xs ys
  cmp-append [] xs ys = refl
  cmp-append (k ∷ front) xs ys = ap (λ r. ordering_then r (slice_cmp R (front ++ xs) (front ++ ys))) (tied_itself o k) ∙ cmp-append front xs ys

  -- a tie behind decides nothing
  then-equal : (r : Ordering) → ordering_then r Equal ≡ r
  then-equal Less = refl
  then-equal Equal = refl
  then-equal Greater = refl

  -- lists of one item
  pub cmp-one : (x y : K) → slice_cmp R (x ∷ []) (y ∷ []) ≡ R x y
  cmp-one x y = then-equal (R x y)

  -- lists with a common front and one more item each
  pub cmp-append_one : (front : List K) (x y : K) → slice_cmp R (front ++ x ∷ []) (front ++ y ∷ []) ≡ R x y
  cmp-append_one front x y = cmp-append front (x ∷ []) (y ∷ []) ∙ cmp-one x y

  -- a front is below the longer list
  pub cmp-longer : (front : List K) (x : K) (xs : List K) → slice_cmp R front (front ++ x ∷ xs) ≡ Less
  cmp-longer [] x xs = refl
  cmp-longer (k ∷ front) x xs = ap (λ r. ordering_then r (slice_cmp R front (front ++ x ∷ xs))) (tied_itself o k) ∙ cmp-longer front x xs

  -- fronts of one length rise with the lists
  pub take-rises : (n : ℕ) (xs ys : List K) → slice_cmp R xs ys ≡ Less → is_gt (slice_cmp R (take n xs) (take n ys)) ≡ false
  take-rises zero xs ys less = refl
  take-rises (suc n) [] [] less = refl
  take-rises (suc n) [] (y ∷ ys) less = refl
  take-rises (suc n) (x ∷ xs) [] less = cc
  take-rises (suc n) (x ∷ xs) (y ∷ ys) less =
      elim (R x y) as (λ r. ordering_then r (slice_cmp R xs ys) ≡ Less → is_gt (ordering_then r (slice_cmp R (take n xs) (take n ys))) ≡ false) [
        | Less ↦ λ h. refl
        | Equal ↦ λ h. take-rises n xs ys h
        | Greater ↦ λ h. cc
      ] less

  -- the same where the lists may tie
  pub take-keeps : ((xs ys : List K) → slice_cmp R xs ys ≡ Equal → xs ≡ ys) → (n : ℕ) (xs ys : List K) → is_gt (slice_cmp R xs ys) ≡ false → is_gt (slice_cmp R (take n xs) (take n ys)) ≡ false
  take-keeps exact n xs ys h = elim (slice_cmp R xs ys) as (λ r. slice_cmp R xs ys ≡ r → is_gt r ≡ false → is_gt (slice_cmp R (take n xs) (take n ys)) ≡ false) [
    | Less ↦ λ e _. take-rises n xs ys e
    | Equal ↦ λ e _. ap (λ (zs : List K). is_gt (slice_cmp R (take n zs) (take n ys))) (exact xs ys e) ∙ ap is_gt (tied_itself (lists_total o) (take n ys))
    | Greater ↦ λ e not. cc
  ] refl h

  -- a list whose front is this one is not below it
  pub cmp-front : (front xs : List K) → take (length front) xs ≡ front → slice_cmp R xs front ≢ Less
  cmp-front [] [] e less = cc
  cmp-front [] (x ∷ xs) e less = cc
  cmp-front (k ∷ front) [] e less = cc
  cmp-front (k ∷ front) (x ∷ xs) e less =
      let head : x ≡ k = cc in
      let rest : take (length front) xs ≡ front = cc in
      cmp-front front xs rest (sym (ap (λ r. ordering_then r (slice_cmp R xs front)) (ap (λ y. R y k) head ∙ tied_itself o k)) ∙ less)
