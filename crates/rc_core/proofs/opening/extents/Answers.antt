use Rattle.rc_core.proofs.Building.{extents_more}
use Rattle.rc_core.proofs.opening.extents.Goals as goal

pub loop-n-preserved : goal.loop-n-preserved
loop-n-preserved c =
    extents_more c.args.plan.now c.args.files.now c.loop-n.n c.index-files-n.result c.loop-n.all.items c.push_extents.new.all.items
    c.loop-n-test.true c.index-files-n.is c.loop-n.invariant c.in_ok-push_extents.ensures
