use Rattle.std.proofs.Common.{◌<◌, ◌≤◌, subst, sym}
use Rattle.rc_core.proofs.Building.{range_more, ranges_all}
use Rattle.rc_core.proofs.opening.push_extents.Goals as goal

pub loop-k-preserved : goal.loop-k-preserved
loop-k-preserved c =
    range_more c.args.n c.args.plan.now.stride c.args.item.now c.loop-k.k c.args.all.now.items c.loop-k.all.items c.push.new.self.items c.extent_at.result
    (subst (λ m. c.loop-k.k < m) c.range_count-k-end.ensures c.loop-k-test.true) c.loop-k.invariant c.extent_at.ensures c.in_ok-push.ensures.items

pub returns-after-loop-k : goal.returns-after-loop-k
returns-after-loop-k c =
    ranges_all c.args.plan.now c.args.n c.args.item.now c.loop-k.k c.args.all.now.items c.loop-k.all.items c.if-plan.true (sym c.if-is_copy.ensures)
    (subst (λ m. m ≤ c.loop-k.k) c.range_count-k-end.ensures c.loop-k-test.false) c.loop-k.invariant
