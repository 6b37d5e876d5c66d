use Rattle.std.proofs.Common.{◌-◌, ap, drop, length, sym, take, ◌∙◌}
use Rattle.rc_core.specs.Nodes.{are_rising}
use Rattle.rc_core.proofs.Numbers.{begins}
use Rattle.rc_core.proofs.Rising.{rising_step}
use Rattle.rc_core.proofs.images.are_rising.Goals as goal

pub loop-rest-preserved : goal.loop-rest-preserved
loop-rest-preserved c =
    let rest = c.loop-rest.rest.now in
    let first = c.first-item.result in
    c.loop-rest.invariant ∙ ap are_rising (begins rest first c.in-len1-up.len_at_least c.first-item.is)
    ∙ rising_step first (take (length rest - 1) (drop 1 rest)) (sym c.lies_below.ensures ∙ c.if-not-lies_below.false)
