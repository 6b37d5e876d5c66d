use Rattle.std.proofs.Common.{take}
use Rattle.rc_mem.specs.Reading.{Shares}
use Rattle.rc_mem.proofs.reader.shared_files.Given as goal

abbrev pub invariant-loop-want : goal.invariant-loop-want
invariant-loop-want l = Shares l.tree (take l.want-index l.wants) l.files
