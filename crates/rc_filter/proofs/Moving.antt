-- That all below what is removed from the source is removed.
use Rattle.std.proofs.Common.{◌≡◌, ◌≢◌, ℕ, Bool, true, false, cond, ◌&&◌, List, ◌∷◌, ◌++◌, Option, Some, None, refl, sym, ap, subst}
use Rattle.std.proofs.lemmas.Bool.{true≢false}
use Rattle.std.specs.Prelude.{option_map}
use Rattle.std.specs.FinMap.{get}
use Rattle.rc_tree.specs.declared.attr.Kind.{Kind}
use Rattle.rc_tree.specs.declared.attr.Kind.TheVariants.{File, Dir}
use Rattle.rc_tree.specs.Spelled.{spelled}
use Rattle.rc_tree.specs.Tree.{Node, Tree}
use Rattle.rc_class.specs.declared.decision.Act.{Act}
use Rattle.rc_class.specs.declared.decision.After.{After}
use Rattle.rc_class.specs.declared.decision.After.TheVariants as after
use Rattle.rc_job.specs.declared.job.Job.{Job}
use Rattle.rc_filter.specs.Decided.{all_moved, around, decided_at, is_movable, is_removal, item_of, kind_of, moves, some_copied, source_act, source_after}
use Rattle.rc_filter.specs.Releases.{IsRemoved, after_act, has_directory, moves_directories}
use Rattle.rc_filter.specs.Scope.{enters, is_decided}
use Rattle.rc_filter.proofs.Neighbours.{all_pass, both_of, first_of, none_lower, none_stays, second_of}

-- One test

is_so : (then : After) → is_removal then ≡ true → then ≡ after.RemoveSource
is_so after.RemoveSource e = refl
is_so after.Nothing e = absurd (true≢false (sym e))
is_so after.ClearArchive e = absurd (true≢false (sym e))

-- a directory is removed where all below it is, and its own test passes
directory_removed : (all passes : Bool) → cond (all && passes) after.RemoveSource after.Nothing ≡ after.RemoveSource → (all ≡ true) × (passes ≡ true)
directory_removed false passes e = absurd cc
directory_removed true false e = absurd cc
directory_removed true true e = (refl, refl)

pub removed_directory : (job : Job) (key : List (List ℕ)) (k : Kind) (target : Option Kind) (does : Act) (all : Bool) → k ≡ Dir → after_act job key k target does all ≡ after.RemoveSource → (all ≡ true) × (has_directory does target ≡ true)
removed_directory job key File target does all is e = absurd cc
removed_directory job key Dir target does all is e =
    let both = directory_removed all (moves_directories job.moving && (has_directory does target && enters job key (Some Dir) target)) e in
    (both.0, first_of (has_directory does target) _ (second_of (moves_directories job.moving) _ both.1))

passes_alone : (job : Job) (key : List (List ℕ)) (k : Kind) (target : Option Kind) (does : Act) (all : Bool) → after_act job key k target does all ≡ after.RemoveSource → after_act job key k target does true ≡ after.RemoveSource
passes_alone job key File target does all e = e
passes_alone job key Dir target does all e =
    ap (λ b. cond b after.RemoveSource after.Nothing) (directory_removed all (moves_directories job.moving && (has_directory does target && enters job key (Some Dir) target)) e).1

-- Two whole trees

module _ (job : Job) (source target : Tree) (moment : ℕ) where
  -- what passes its own test is removed where all below it passes
  moved_at : (key : List (List ℕ)) → is_movable job source target moment key ≡ true → all_moved job source target moment key ≡ true → IsRemoved (decided_at job source target moment key)
  moved_at key passes all =
      let some = some_copied job source target moment key in
      subst (λ b. IsRemoved (cond b (item_of job moment key (spelled source key) (spelled target key) (around job source target moment key) (get source key) (get target key)) None))
      (sym (second_of (moves job moment key some (get source key) (get target key)) (is_decided job source target key) passes))
      (by (get source key) (get target key) (first_of (moves job moment key some (get source key) (get target key)) _ passes))
    where
      by : (s t : Option Node) → moves job moment key (some_copied job source target moment key) s t ≡ true → IsRemoved (item_of job moment key (spelled source key) (spelled target key) (around job source target moment key) s t)
      by None t e = absurd (true≢false (sym e))
      by (Some node) t e =
          subst (λ b. source_after job moment key (some_copied job source target moment key) b node t ≡ after.RemoveSource) (sym all)
          (is_so (source_after job moment key (some_copied job source target moment key) true node t) e)

  -- and what is removed has passed it
  move_passes : (key : List (List ℕ)) → IsRemoved (decided_at job source target moment key) → is_movable job source target moment key ≡ true
  move_passes key is =
      let some = some_copied job source target moment key in
      elim (is_decided job source target key) as (λ b. is_decided job source target key ≡ b → IsRemoved (cond b (item_of job moment key (spelled source key) (spelled target key) (around job source target moment key) (get source key) (get target key)) None) → is_movable job source target moment key ≡ true) [
        | true ↦ λ decided at. both_of (moves job moment key some (get source key) (get target key)) (is_decided job source target key) (by (get source key) (get target key) at) decided
        | false ↦ λ _ at. absurd at
      ] refl is
    where
      nothing : after.Nothing ≡ after.RemoveSource → ⊥
      nothing e = cc

      by : (s t : Option Node) → IsRemoved (item_of job moment key (spelled source key) (spelled target key) (around job source target moment key) s t) → moves job moment key (some_copied job source target moment key) s t ≡ true
      by None None at = absurd at
      by None (Some node) at = absurd (nothing at)
      by (Some node) t at =
          ap is_removal (passes_alone job key node.kind (option_map kind_of t) (source_act job moment key (some_copied job source target moment key) node t) (all_moved job source target moment key) at)

  pub moved_below : (key : List (List ℕ)) → all_moved job source target moment key ≡ true → (name : List ℕ) (names : List (List ℕ)) → get source (key ++ name ∷ names) ≢ None → IsRemoved (decided_at job source target moment (key ++ name ∷ names))
  moved_below key all name names there =
      moved_at (key ++ name ∷ names)
      (none_stays (is_movable job source target moment) source key all name names there)
      (none_lower (is_movable job source target moment) source key names name all)

  pub below_moved : (key : List (List ℕ)) → ((name : List ℕ) (names : List (List ℕ)) → get source (key ++ name ∷ names) ≢ None → IsRemoved (decided_at job source target moment (key ++ name ∷ names))) → all_moved job source target moment key ≡ true
  below_moved key each =
      all_pass (is_movable job source target moment) source key (λ name names there. move_passes (key ++ name ∷ names) (each name names there))
