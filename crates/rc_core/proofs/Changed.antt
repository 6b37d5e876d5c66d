-- One element of a list that is changed where it stands.
use Rattle.std.proofs.Common.{◌≡◌, ℕ, ◌<◌, List, length, get_or, sym, ap, ◌∙◌}
use Rattle.std.proofs.lemmas.List.{set-get_or}
use Rattle.std.proofs.lemmas.Option.{slice_get-get_or}
use Rattle.std.specs.Prelude.{option_map, slice_set, Result, Ok, Err}
use Rattle.rc_core.specs.Rows.{Leaves, changed_at, with_at}

pub changed_within : {A : Type 0} (n : ℕ) (change : A → A) (xs : List A) (d : A) → n < length xs → changed_at n change xs ≡ slice_set xs n (change (get_or xs n d))
changed_within n change xs d below = ap (λ o. with_at xs n (option_map change o)) (slice_get-get_or xs n d below)

-- what a call leaves of an element, it leaves of the list
pub left_in : {T E A : Type 0} (result : Result T E) (n : ℕ) (change : A → A) (xs : List A) (d new : A) → n < length xs → Leaves result (get_or xs n d) (change (get_or xs n d)) new → Leaves result xs (changed_at n change xs) (slice_set xs n new)
left_in (Ok done) n change xs d new below is = ap (slice_set xs n) is ∙ sym (changed_within n change xs d below)
left_in (Err e) n change xs d new below is = ap (slice_set xs n) is ∙ set-get_or xs n d
