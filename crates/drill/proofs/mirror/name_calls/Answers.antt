use Rattle.std.proofs.Common.{◌∙◌, length, take, drop, get_or, ◌-◌}
use Rattle.rc_volume.specs.declared.site.Part.TheVariants.{Source}
use Rattle.rc_drillwords.specs.declared.reading.FailingCall.{FailingCall}
use Rattle.drill.proofs.Failures.{begins_at, calls_on}
use Rattle.drill.proofs.mirror.name_calls.Goals as goal

pub calls-preserved : goal.calls-preserved
calls-preserved c =
    let rest = c.calls.rest.now in
    let other : FailingCall = record { part = Source; number = 0 } in
    let next = begins_at rest other c.in-len1-up.len_at_least in (
      calls_on c.args.calls.now rest (take (length rest - 1) (drop 1 rest)) (get_or rest 0 other) c.args.site.now.named c.calls.site.named c.name_call.new.site.named next c.calls.invariant.0 c.in-Ok.ensures.named,
      c.name_call.ensures.seen ∙ c.calls.invariant.1,
    )

pub returns-in-Err-clause-seen : goal.returns-in-Err-clause-seen
returns-in-Err-clause-seen c = c.name_call.ensures.seen ∙ c.calls.invariant.1
