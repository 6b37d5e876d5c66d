use Rattle.std.proofs.Common.{◌≡◌, map, take}
use Rattle.rc_core.specs.Opened.{extents_from}
use Rattle.rc_core.specs.declared.rows.FileRow.{FileRow}
use Rattle.rc_core.proofs.opening.extents.Given as goal

abbrev pub invariant-loop-n : goal.invariant-loop-n
invariant-loop-n l = l.all.items ≡ extents_from l.plan 0 (map (λ (row : FileRow). row.file) (take l.n l.files))
