use Rattle.std.proofs.Common.{◌≡◌, ◌++◌, drop, map, take}
use Rattle.rc_core.specs.Events.{rerun_unit}
use Rattle.rc_core.proofs.reruns.rerun_units.Given as goal

abbrev pub invariant-loop-row : goal.invariant-loop-row
invariant-loop-row l = l.rows ≡ map rerun_unit (take l.row-index l.fn.rows) ++ drop l.row-index l.fn.rows
