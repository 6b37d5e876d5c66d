use Rattle.std.proofs.Common.{◌≡◌, take}
use Rattle.rc_core.specs.Events.{stopped_units}
use Rattle.rc_core.proofs.stops.stopped_units.Given as goal

abbrev pub invariant-loop-n : goal.invariant-loop-n
invariant-loop-n l = l.stopped.items ≡ stopped_units l.marks (take l.n l.rows)
