use Rattle.std.proofs.Common.{◌≡◌, ◌+◌, length}
use Rattle.rc_drillwords.specs.Asking.{spellings}
use Rattle.rc_drillwords.proofs.Readings.{Goes}
use Rattle.rc_drillwords.proofs.arguments.read_arguments.Given as goal

abbrev pub invariant-arguments : goal.invariant-arguments
invariant-arguments l =
    Goes (spellings l.fn.args) l.asked l.place (spellings l.rest)
    × (l.place + length l.rest ≡ length l.fn.args + 1)

abbrev pub decreases-arguments : goal.decreases-arguments
decreases-arguments l = length l.rest
