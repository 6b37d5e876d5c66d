use Rattle.std.proofs.Common.{◌≡◌, ◌≤◌, drop, length, map}
use Rattle.rc_stop.specs.Kept.{spoiled}
use Rattle.rc_mem.specs.Logged.{notes_call_of}
use Rattle.rc_stop.proofs.kept.spoil.Given as goal

-- what the calls that are left make of the bytes is what all make of them
abbrev pub invariant-loop-call : goal.invariant-loop-call
invariant-loop-call l = record {
  all : spoiled l.byte l.limit (map notes_call_of (drop l.call-index l.calls)) l.bytes.items ≡ spoiled l.byte l.limit (map notes_call_of l.calls) l.initial.bytes.items;
  within : l.limit ≤ length l.bytes.items;
}
