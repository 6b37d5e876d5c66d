use Rattle.std.proofs.Common.{length}
use Rattle.rc_core.specs.Stops.{Agrees, Stood}
use Rattle.rc_core.proofs.Numbers.{Tells}
use Rattle.rc_core.proofs.aspects.agrees_any.Given as goal

abbrev pub invariant-loop-rest : goal.invariant-loop-rest
invariant-loop-rest l = Tells (Stood l.had (Agrees l.aspect l.image)) (Stood l.rest (Agrees l.aspect l.image))

abbrev pub decreases-loop-rest : goal.decreases-loop-rest
decreases-loop-rest l = length l.rest
