use Rattle.std.proofs.Common.{◌≡◌, length}
use Rattle.rc_jobfiles.specs.Merge.{given}
use Rattle.rc_jobfiles.proofs.lookup.given.Given as goal

abbrev pub invariant-settings : goal.invariant-settings
invariant-settings l = given l.number l.rest ≡ given l.number l.fn.settings

abbrev pub decreases-settings : goal.decreases-settings
decreases-settings l = length l.rest
