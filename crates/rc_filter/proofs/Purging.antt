-- That all below what is removed from the target is removed.
use Rattle.std.proofs.Common.{◌≡◌, ◌≢◌, ℕ, Bool, true, false, cond, ◌&&◌, List, ◌∷◌, ◌++◌, Option, Some, None, refl, sym, ap, subst}
use Rattle.std.proofs.lemmas.Bool.{true≢false}
use Rattle.std.specs.FinMap.{get}
use Rattle.rc_tree.specs.declared.attr.Kind.{Kind}
use Rattle.rc_tree.specs.declared.attr.Kind.TheVariants.{File, Dir}
use Rattle.rc_tree.specs.Spelled.{spelled}
use Rattle.rc_tree.specs.Tree.{Node, Tree}
use Rattle.rc_class.specs.declared.decision.Act.{Act}
use Rattle.rc_class.specs.declared.decision.Act.TheVariants as act
use Rattle.rc_class.specs.declared.decision.Reason.TheVariants as reason
use Rattle.rc_class.specs.Sides.{Acts}
use Rattle.rc_job.specs.declared.job.Job.{Job}
use Rattle.rc_filter.specs.Acts.{extra_act}
use Rattle.rc_filter.specs.Decided.{all_purged, around, decided_at, is_purge, is_purgeable, item_of, purges}
use Rattle.rc_filter.specs.Matching.{is_excluded_directory}
use Rattle.rc_filter.specs.Scope.{is_decided}
use Rattle.rc_filter.proofs.Items.{source_keeps}
use Rattle.rc_filter.proofs.Neighbours.{all_pass, both_of, first_of, none_lower, none_stays, second_of}

-- One test

is_so : (does : Act) → is_purge does ≡ true → does ≡ act.Purge
is_so act.Purge e = refl
is_so act.Copy e = absurd (true≢false (sym e))
is_so act.Make e = absurd (true≢false (sym e))
is_so act.Touch e = absurd (true≢false (sym e))
is_so act.Fix e = absurd (true≢false (sym e))
is_so act.Extra e = absurd (true≢false (sym e))
is_so act.Mismatch e = absurd (true≢false (sym e))
is_so (act.Keep why) e = absurd (true≢false (sym e))

-- a directory is removed where all below it is, and its own test passes
directory_purged : (left excluded all purge : Bool) → cond left (act.Keep reason.Class) (cond excluded (act.Keep reason.Excluded) (cond (all && purge) act.Purge act.Extra)) ≡ act.Purge → (all ≡ true) × (cond left (act.Keep reason.Class) (cond excluded (act.Keep reason.Excluded) (cond purge act.Purge act.Extra)) ≡ act.Purge)
directory_purged true excluded all purge e = absurd cc
directory_purged false true all purge e = absurd cc
directory_purged false false false purge e = absurd cc
directory_purged false false true purge e = (refl, e)

passes_alone : (job : Job) (key : List (List ℕ)) (k : Kind) (all : Bool) → extra_act job key k all ≡ act.Purge → extra_act job key k true ≡ act.Purge
passes_alone job key File all e = e
passes_alone job key Dir all e = (directory_purged job.xx (is_excluded_directory job key) all job.purge e).1

pub all_of_purge : (job : Job) (key : List (List ℕ)) (k : Kind) (all : Bool) → k ≡ Dir → extra_act job key k all ≡ act.Purge → all ≡ true
all_of_purge job key File all is e = absurd cc
all_of_purge job key Dir all is e = (directory_purged job.xx (is_excluded_directory job key) all job.purge e).0

-- Two whole trees

module _ (job : Job) (source target : Tree) (moment : ℕ) where
  -- what passes its own test is removed where all below it passes
  purged_at : (key : List (List ℕ)) → is_purgeable job source target key ≡ true → all_purged job source target key ≡ true → Acts act.Purge (decided_at job source target moment key)
  purged_at key passes all =
      subst (λ b. Acts act.Purge (cond b (item_of job moment key (spelled source key) (spelled target key) (around job source target moment key) (get source key) (get target key)) None))
      (sym (second_of (purges job key (get source key) (get target key)) (is_decided job source target key) passes))
      (by (get source key) (get target key) (first_of (purges job key (get source key) (get target key)) _ passes))
    where
      by : (s t : Option Node) → purges job key s t ≡ true → Acts act.Purge (item_of job moment key (spelled source key) (spelled target key) (around job source target moment key) s t)
      by (Some node) t e = absurd (true≢false (sym e))
      by None None e = absurd (true≢false (sym e))
      by None (Some node) e = subst (λ b. extra_act job key node.kind b ≡ act.Purge) (sym all) (is_so (extra_act job key node.kind true) e)

  -- and what is removed has passed it
  purge_passes : (key : List (List ℕ)) → Acts act.Purge (decided_at job source target moment key) → is_purgeable job source target key ≡ true
  purge_passes key is =
      elim (is_decided job source target key) as (λ b. is_decided job source target key ≡ b → Acts act.Purge (cond b (item_of job moment key (spelled source key) (spelled target key) (around job source target moment key) (get source key) (get target key)) None) → is_purgeable job source target key ≡ true) [
        | true ↦ λ decided at. both_of (purges job key (get source key) (get target key)) (is_decided job source target key) (by (get source key) (get target key) at) decided
        | false ↦ λ _ at. absurd at
      ] refl is
    where
      by : (s t : Option Node) → Acts act.Purge (item_of job moment key (spelled source key) (spelled target key) (around job source target moment key) s t) → purges job key s t ≡ true
      by (Some node) t at = absurd (source_keeps job moment key (around job source target moment key).some_copied node t at)
      by None None at = absurd at
      by None (Some node) at = ap is_purge (passes_alone job key node.kind (all_purged job source target key) at)

  pub purged_below : (key : List (List ℕ)) → all_purged job source target key ≡ true → (name : List ℕ) (names : List (List ℕ)) → get target (key ++ name ∷ names) ≢ None → Acts act.Purge (decided_at job source target moment (key ++ name ∷ names))
  purged_below key all name names there =
      purged_at (key ++ name ∷ names)
      (none_stays (is_purgeable job source target) target key all name names there)
      (none_lower (is_purgeable job source target) target key names name all)

  pub below_purged : (key : List (List ℕ)) → ((name : List ℕ) (names : List (List ℕ)) → get target (key ++ name ∷ names) ≢ None → Acts act.Purge (decided_at job source target moment (key ++ name ∷ names))) → all_purged job source target key ≡ true
  below_purged key each =
      all_pass (is_purgeable job source target) target key (λ name names there. purge_passes (key ++ name ∷ names) (each name names there))
