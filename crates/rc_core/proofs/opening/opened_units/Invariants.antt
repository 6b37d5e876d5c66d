use Rattle.std.proofs.Common.{◌≡◌, take}
use Rattle.rc_core.specs.Opened.{opened_units}
use Rattle.rc_core.proofs.opening.opened_units.Given as goal

abbrev pub invariant-loop-n : goal.invariant-loop-n
invariant-loop-n l = l.units.items ≡ opened_units l.marks (take l.n l.extents)
