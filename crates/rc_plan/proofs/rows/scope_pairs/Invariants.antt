use Rattle.std.proofs.Common.{◌≡◌, ◌++◌, length}
use Rattle.rc_plan.specs.Rows.{rows_from}
use Rattle.rc_plan.proofs.rows.scope_pairs.Given as goal

abbrev pub invariant-pairs : goal.invariant-pairs
invariant-pairs l = l.rows.items ++ rows_from l.job l.depth l.left.items ≡ rows_from l.job 0 l.fn.pairs.items

abbrev pub decreases-pairs : goal.decreases-pairs
decreases-pairs l = length l.left.items
