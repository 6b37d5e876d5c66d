use Rattle.std.proofs.Common.{arith}
use Rattle.rc_core.specs.Events.{rerun_unit}
use Rattle.rc_core.specs.declared.rows.UnitRow.{UnitRow}
use Rattle.rc_core.specs.declared.rows.UnitState.TheVariants as unit
use Rattle.rc_core.proofs.ChangedAll.{changed_more}
use Rattle.rc_core.proofs.reruns.rerun_units.Goals as goal

pub loop-row-preserved : goal.loop-row-preserved
loop-row-preserved c =
    let row : UnitRow = record { extent = record { file = 0; off = 0; len = 0 }; state = unit.Free; attempts = 0 } in
    changed_more rerun_unit c.args.rows.now c.loop-row.rows c.loop-row.row-index row _ (omega (arith, c.loop-row-test.true)) c.loop-row.invariant c.rerun_unit.ensures
