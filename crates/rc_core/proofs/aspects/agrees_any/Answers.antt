use Rattle.rc_core.specs.Stops.{Agrees, Stood}
use Rattle.rc_core.proofs.Numbers.{begins, step_stood}
use Rattle.rc_core.proofs.aspects.agrees_any.Goals as goal

pub loop-rest-preserved : goal.loop-rest-preserved
loop-rest-preserved c =
    step_stood (Stood c.args.had.now (Agrees c.args.aspect c.args.image.now)) c.loop-rest.rest.now _ _ (Agrees c.args.aspect c.args.image.now) c.agrees_some.result
    (begins c.loop-rest.rest.now _ c.in-len1-up.len_at_least c.first-item.is) c.loop-rest.invariant c.agrees_some.ensures c.if-agrees_some.false
