-- One element more that is changed where it stands.
use Rattle.std.proofs.Common.{◌≡◌, ℕ, zero, suc, ◌+◌, ◌<◌, List, [], ◌∷◌, ◌++◌, drop, get_or, length, map, take, refl, ap, ◌∙◌, arith}
use Rattle.std.specs.Prelude.{slice_set}

one_more : {A : Type 0} (change : A → A) (all : List A) (i : ℕ) (d : A) → i < length all → slice_set (map change (take i all) ++ drop i all) i (change (get_or (map change (take i all) ++ drop i all) i d)) ≡ map change (take (suc i) all) ++ drop (suc i) all
one_more change [] i d below = absurd (omega (arith, below))
one_more change (x ∷ all) zero d below = refl
one_more change (x ∷ all) (suc i) d below = ap (λ rest. change x ∷ rest) (one_more change all i d (omega (arith, below)))

pub changed_more : {A : Type 0} (change : A → A) (all rows : List A) (i : ℕ) (d new : A) → i < length all → rows ≡ map change (take i all) ++ drop i all → new ≡ change (get_or rows i d) → slice_set rows i new ≡ map change (take (i + 1) all) ++ drop (i + 1) all
changed_more {A} change all rows i d new below is so =
    let on : suc i ≡ i + 1 = omega arith in
    ap (slice_set rows i) so
    ∙ ap (λ (rows : List A). slice_set rows i (change (get_or rows i d))) is
    ∙ one_more change all i d below
    ∙ ap (λ n. map change (take n all) ++ drop n all) on
