use Rattle.std.proofs.Common.{◌≡◌, take}
use Rattle.rc_copy.specs.Reading.{whole_files}
use Rattle.rc_copy.proofs.reading.wants_for.Given as goal

abbrev pub invariant-loop-item : goal.invariant-loop-item
invariant-loop-item l = l.wants.items ≡ whole_files l.with_bytes (take l.item-index l.items)
