use Rattle.std.proofs.Common.{◌≡◌, ◌++◌, take}
use Rattle.std.specs.List.{flat_map}
use Rattle.rc_record.proofs.Lengths.{behind_end}
use Rattle.rc_record.proofs.spelling.put_below.Given as goal

abbrev pub invariant-loop-name : goal.invariant-loop-name
invariant-loop-name l = l.bytes.items ≡ l.initial.bytes.items ++ flat_map behind_end (take l.name-index l.names)
