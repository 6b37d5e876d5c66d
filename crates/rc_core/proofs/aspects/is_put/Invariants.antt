use Rattle.std.proofs.Common.{length}
use Rattle.rc_core.specs.Stops.{IsPut}
use Rattle.rc_core.proofs.Numbers.{Tells}
use Rattle.rc_core.proofs.aspects.is_put.Given as goal

abbrev pub invariant-loop-rest : goal.invariant-loop-rest
invariant-loop-rest l = Tells (IsPut l.puts l.at) (IsPut l.rest l.at)

abbrev pub decreases-loop-rest : goal.decreases-loop-rest
decreases-loop-rest l = length l.rest
