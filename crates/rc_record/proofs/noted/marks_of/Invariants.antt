use Rattle.std.proofs.Common.{◌≡◌, map, take}
use Rattle.rc_record.specs.Grammar.{stands_at}
use Rattle.rc_record.proofs.noted.marks_of.Given as goal

abbrev pub invariant-loop-byte : goal.invariant-loop-byte
invariant-loop-byte l = l.marks.items ≡ map stands_at (take l.byte-index l.bytes)
