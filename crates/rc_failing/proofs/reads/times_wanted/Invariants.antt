use Rattle.std.proofs.Common.{take}
use Rattle.std.specs.List.{All}
use Rattle.rc_failing.proofs.Picked.{IsPicked}
use Rattle.rc_failing.proofs.reads.times_wanted.Given as goal

abbrev pub invariant-loop-want : goal.invariant-loop-want
invariant-loop-want l = All (IsPicked l.reads l.wanted) (take l.want-index l.wants)
