-- What is decided of rows, by what becomes of those behind them.
use Rattle.std.specs.Prelude.{ℕ, Bool, false, not, ◌&&◌, List, [], ◌∷◌, Option, Some, None, is_some, length, map, take, if◌then◌else◌}
use Rattle.std.specs.Ordering.{eq_by_cmp}
use Rattle.rc_tree.specs.Path.{key_of, key_cmp}
use Rattle.rc_class.specs.declared.item.Item.{Item}
use Rattle.rc_class.specs.Units.{is_copy}
use Rattle.rc_job.specs.declared.job.Job.{Job}
use Rattle.rc_filter.specs.Decided.{is_purge, is_removal}
use Rattle.rc_plan.specs.declared.decisions.Below.{Below}
use Rattle.rc_plan.specs.declared.decisions.Decision.{Decision}
use Rattle.rc_plan.specs.declared.pairs.Pair.{Pair}
use Rattle.rc_plan.specs.declared.rows.Row.{Row}
use Rattle.rc_plan.specs.Deciding.{pair_item, row_decision}
use Rattle.rc_plan.specs.Pair.{pair_path, source_kind, target_kind}

-- Decisions

abbrev pub is_copied : Option Decision → Bool
is_copied None = false
is_copied (Some decision) = is_copy decision.act

abbrev pub is_purged : Option Decision → Bool
is_purged None = false
is_purged (Some decision) = is_purge decision.act

abbrev pub is_moved : Option Decision → Bool
is_moved None = false
is_moved (Some decision) = is_removal decision.after

-- the target has an entry that is not removed, or the source has
abbrev pub stays_on_target : Pair → Option Decision → Bool
stays_on_target pair decision = is_some (target_kind pair) && not (is_purged decision)

abbrev pub stays_in_source : Pair → Option Decision → Bool
stays_in_source pair decision = is_some (source_kind pair) && not (is_moved decision)

-- Rows with their decisions

-- a row, and what is decided of it
abbrev pub Settled : Type 0
Settled = Row × Option Decision

abbrev pub decisions_of : List Settled → List (Option Decision)
decisions_of all = map (λ (one : Settled). one.1) all

-- the item of a row that is decided
abbrev pub settled_item : Job → Settled → Option Item
settled_item job (row, None) = None
settled_item job (row, Some decision) = Some (pair_item job decision row.pair)

-- the path of the first row for which a test holds
abbrev pub next_where : Bool → List (List ℕ) → Option (List (List ℕ)) → Option (List (List ℕ))
next_where holds path later = if holds then Some path else later

abbrev pub first_where : (Pair → Option Decision → Bool) → List Settled → Option (List (List ℕ))
first_where test [] = None
first_where test ((row, decision) ∷ later) = next_where (test row.pair decision) (pair_path row.pair) (first_where test later)

-- a path leads to another: it is that one, or the way to it
abbrev pub leads_to : List (List ℕ) → Option (List (List ℕ)) → Bool
leads_to path None = false
leads_to path (Some later) = eq_by_cmp key_cmp (take (length path) (key_of later)) (key_of path)

-- what becomes of what lies below a path: of those of these rows to which it leads
abbrev pub below_path : List (List ℕ) → List Settled → Below
below_path path later = record {
  some_copied = leads_to path (first_where (λ pair decision. is_copied decision) later);
  all_purged = not (leads_to path (first_where stays_on_target later));
  all_moved = not (leads_to path (first_where stays_in_source later));
}

-- rows, each decided by those behind it
abbrev pub settle_row : Job → ℕ → Row → List Settled → Settled
settle_row job moment row later = (row, row_decision job moment (below_path (pair_path row.pair) later) row)

abbrev pub settled_from : Job → ℕ → List Row → List Settled
settled_from job moment [] = []
settled_from job moment (row ∷ rows) = settle_row job moment row (settled_from job moment rows) ∷ settled_from job moment rows
