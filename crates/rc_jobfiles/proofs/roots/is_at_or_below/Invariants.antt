use Rattle.std.proofs.Common.{◌≡◌, length}
use Rattle.rc_jobfiles.specs.Roots.{is_at_or_below}
use Rattle.rc_jobfiles.proofs.roots.is_at_or_below.Given as goal

abbrev pub invariant-chars : goal.invariant-chars
invariant-chars l = is_at_or_below l.left l.rest ≡ is_at_or_below l.root l.below

abbrev pub decreases-chars : goal.decreases-chars
decreases-chars l = length l.left
