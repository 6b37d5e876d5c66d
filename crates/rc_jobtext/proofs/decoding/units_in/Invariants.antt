use Rattle.std.proofs.Common.{◌≡◌, length}
use Rattle.rc_jobtext.specs.Decoding.{units_in}
use Rattle.rc_jobtext.proofs.Parts.{units_behind}
use Rattle.rc_jobtext.proofs.decoding.units_in.Given as goal

abbrev pub invariant-units : goal.invariant-units
invariant-units l = units_behind l.units.items (units_in l.rest) ≡ units_in l.bytes

abbrev pub decreases-units : goal.decreases-units
decreases-units l = length l.rest
