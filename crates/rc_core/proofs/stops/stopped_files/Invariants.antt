use Rattle.std.proofs.Common.{◌≡◌, take}
use Rattle.rc_core.specs.Events.{stopped_files}
use Rattle.rc_core.proofs.stops.stopped_files.Given as goal

abbrev pub invariant-loop-n : goal.invariant-loop-n
invariant-loop-n l = l.stopped.items ≡ stopped_files l.image l.marks (take l.n l.rows)
