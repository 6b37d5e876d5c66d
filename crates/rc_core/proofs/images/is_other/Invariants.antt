use Rattle.std.proofs.Common.{◌≢◌}
use Rattle.rc_tree.specs.Path.{key_of}
use Rattle.rc_core.specs.declared.rows.FileRow.{FileRow}
use Rattle.rc_core.proofs.Numbers.{Below}
use Rattle.rc_core.proofs.images.is_other.Given as goal

abbrev pub invariant-loop-n : goal.invariant-loop-n
invariant-loop-n l = Below (λ n (row : FileRow). key_of row.file.item.path ≢ key_of l.path) l.files l.n
