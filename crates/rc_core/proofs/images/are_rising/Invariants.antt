use Rattle.std.proofs.Common.{◌≡◌, length}
use Rattle.rc_core.specs.Nodes.{are_rising}
use Rattle.rc_core.proofs.images.are_rising.Given as goal

abbrev pub invariant-loop-rest : goal.invariant-loop-rest
invariant-loop-rest l = are_rising l.nodes ≡ are_rising l.rest

abbrev pub decreases-loop-rest : goal.decreases-loop-rest
decreases-loop-rest l = length l.rest
