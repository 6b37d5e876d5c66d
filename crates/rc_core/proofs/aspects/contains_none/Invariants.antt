use Rattle.std.proofs.Common.{length}
use Rattle.std.specs.Prelude.{Contains, None}
use Rattle.rc_core.proofs.Numbers.{Tells}
use Rattle.rc_core.proofs.aspects.contains_none.Given as goal

abbrev pub invariant-loop-rest : goal.invariant-loop-rest
invariant-loop-rest l = Tells (Contains l.had None) (Contains l.rest None)

abbrev pub decreases-loop-rest : goal.decreases-loop-rest
decreases-loop-rest l = length l.rest
