use Rattle.std.specs.Prelude.{slice_get}
use Rattle.rc_core.specs.Images.{IsMarkOf}
use Rattle.rc_core.specs.Rows.{is_marked, may_be_marked}
use Rattle.rc_core.specs.declared.rows.UnitRow.{UnitRow}
use Rattle.rc_core.proofs.Numbers.{Below}
use Rattle.rc_core.proofs.marks.are_unit_marks.Given as goal

abbrev pub invariant-loop-n : goal.invariant-loop-n
invariant-loop-n l = Below (λ n (row : UnitRow). IsMarkOf (is_marked row.state) (may_be_marked row.state) (slice_get l.marks n)) l.rows l.n
