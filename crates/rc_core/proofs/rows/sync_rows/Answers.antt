use Rattle.std.proofs.Common.{ap, arith, get_or}
use Rattle.rc_core.specs.Rows.{synced}
use Rattle.rc_core.specs.Touched.{Touched}
use Rattle.rc_core.proofs.ChangedAll.{changed_more}
use Rattle.rc_core.proofs.rows.sync_rows.Goals as goal

pub loop-row-preserved : goal.loop-row-preserved
loop-row-preserved c =
    changed_more synced c.args.rows.now c.loop-row.rows c.loop-row.row-index c.row-item.result _ (omega arith) c.loop-row.invariant
    (ap (λ (t : Touched). record (get_or c.loop-row.rows c.loop-row.row-index c.row-item.result) { touched = t }) c.clear.ensures)
