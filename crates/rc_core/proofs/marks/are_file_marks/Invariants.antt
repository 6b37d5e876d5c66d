use Rattle.std.specs.Prelude.{slice_get}
use Rattle.rc_core.specs.Images.{IsMarkOf}
use Rattle.rc_core.specs.Rows.{is_done, is_finished}
use Rattle.rc_core.specs.declared.rows.FileRow.{FileRow}
use Rattle.rc_core.proofs.Numbers.{Below}
use Rattle.rc_core.proofs.marks.are_file_marks.Given as goal

abbrev pub invariant-loop-n : goal.invariant-loop-n
invariant-loop-n l = Below (λ n (row : FileRow). IsMarkOf (is_finished row.state) (is_done row.state) (slice_get l.marks n)) l.rows l.n
