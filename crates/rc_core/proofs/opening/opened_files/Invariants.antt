use Rattle.std.proofs.Common.{◌≡◌, take}
use Rattle.rc_core.specs.Opened.{copied_from, opened_files}
use Rattle.rc_core.proofs.opening.opened_files.Given as goal

abbrev pub invariant-loop-place : goal.invariant-loop-place
invariant-loop-place l = l.files.items ≡ opened_files l.marks (copied_from l.source l.target 0 (take l.place l.items))
