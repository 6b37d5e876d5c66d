use Rattle.std.proofs.Common.{length}
use Rattle.rc_wild.proofs.Cuts.{IsCut}
use Rattle.rc_wild.proofs.parts.cut.Given as goal

abbrev pub invariant-chars : goal.invariant-chars
invariant-chars l = IsCut l.text l.rest.rest.now

abbrev pub decreases-chars : goal.decreases-chars
decreases-chars l = length l.rest.rest.now
