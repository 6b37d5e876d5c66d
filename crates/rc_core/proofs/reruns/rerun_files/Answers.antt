use Rattle.std.proofs.Common.{arith}
use Rattle.rc_core.specs.Events.{rerun_file}
use Rattle.rc_core.proofs.ChangedAll.{changed_more}
use Rattle.rc_core.proofs.reruns.rerun_files.Goals as goal

pub loop-row-preserved : goal.loop-row-preserved
loop-row-preserved c = changed_more rerun_file c.args.rows.now c.loop-row.rows c.loop-row.row-index c.row-item.result _ (omega (arith, c.loop-row-test.true)) c.loop-row.invariant c.rerun_file.ensures
