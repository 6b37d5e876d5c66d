use Rattle.std.proofs.Common.{sym, subst, ◌∙◌}
use Rattle.rc_volume.specs.Faults.{free}
use Rattle.rc_volume.specs.Waits.{Paused, Waits}
use Rattle.rc_run.proofs.RunLemmas.{in_order_so, lasting_so, sends_so}
use Rattle.rc_run.specs.Outcome.{ending, WaitsFor}
use Rattle.rc_run.proofs.WaitLemmas.{unwaited, unwaited_free, waits_on_then}
use Rattle.rc_run.proofs.run.run.Goals as goal

pub returns-clause-sends : goal.returns-clause-sends
returns-clause-sends g c = λ tells sink_tells.
    sends_so c.args.job.now c.in-Ok-plan.plan _ _ _ c.carry_out.result _ _
    (c.carry_out.ensures.items tells) (c.in-Ok-plan.ensures.frame.told tells ∙ c.in-Ok.ensures.frame.told tells) (c.in-Ok-plan.ensures.made.moment ∙ c.in-Ok.ensures.moment ∙ sym (c.carry_out.ensures.last ∙ c.in-Ok-plan.ensures.last))
    (c.carry_out.ensures.whole sink_tells) (c.carry_out.ensures.front sink_tells)

pub returns-clause-lasting : goal.returns-clause-lasting
returns-clause-lasting g c = λ tells carried behind.
    lasting_so c.args.job.now c.in-Ok-plan.plan.items _ _ _ _ (g.S.Site.view c.carry_out.new.site) (c.carry_out.ensures.items tells)
    (c.in-Ok-plan.ensures.frame.told tells ∙ c.in-Ok.ensures.frame.told tells) (c.in-Ok-plan.ensures.made.moment ∙ c.in-Ok.ensures.moment ∙ sym (c.carry_out.ensures.last ∙ c.in-Ok-plan.ensures.last)) (c.carry_out.ensures.lasting tells carried behind)

pub returns-clause-in_order : goal.returns-clause-in_order
returns-clause-in_order g c = λ tells.
    in_order_so c.args.job.now c.in-Ok-plan.plan.items (g.S.Site.view c.plan.new.site) (g.S.Site.view c.args.site.now) (g.S.Site.view c.carry_out.new.site) _ _ (c.carry_out.ensures.items tells)
    (c.in-Ok-plan.ensures.frame.told tells ∙ c.in-Ok.ensures.frame.told tells) (c.in-Ok-plan.ensures.frame.log tells ∙ c.in-Ok.ensures.frame.log tells)
    (c.in-Ok-plan.ensures.made.moment ∙ c.in-Ok.ensures.moment ∙ sym (c.carry_out.ensures.last ∙ c.in-Ok-plan.ensures.last)) (c.carry_out.ensures.in_order tells)

pub returns-clause-listed : goal.returns-clause-listed
returns-clause-listed g c = λ tells lists. c.carry_out.ensures.listed tells lists ∙ c.in-Ok-plan.ensures.frame.log tells ∙ c.in-Ok.ensures.frame.log tells

pub returns-in-Err-clause-waits : goal.returns-in-Err-clause-waits
returns-in-Err-clause-waits g c =
    let job = c.args.job.now in
    subst (λ (p : Paused). WaitsFor job.wait job.retries c.in-Err.e (g.S.Site.view c.args.site.now) (g.S.Site.view c.start.new.site) (g.C.Clock.paused c.args.clock.now) p) (sym c.in-Err.ensures.no_pause)
    (unwaited job.wait job.retries (ending c.in-Err.e) _ _ _ c.in-Err.ensures.frame.counts)

pub returns-clause-waits : goal.returns-clause-waits
returns-clause-waits g c =
    let job = c.args.job.now in
    let before = (g.S.Site.view c.args.site.now).faults in
    let started : Waits job.wait free before (g.S.Site.view c.start.new.site).faults (g.C.Clock.paused c.args.clock.now) (g.C.Clock.paused c.start.new.clock) =
    subst (λ (p : Paused). Waits job.wait free before (g.S.Site.view c.start.new.site).faults (g.C.Clock.paused c.args.clock.now) p) (sym c.in-Ok.ensures.no_pause)
    (unwaited_free job.wait _ _ _ c.in-Ok.ensures.frame.counts) in
    waits_on_then _ _ _ _ _ _ _ _ (waits_on_then _ _ _ _ _ _ _ _ started c.in-Ok-plan.ensures.waits) c.carry_out.ensures.waits
