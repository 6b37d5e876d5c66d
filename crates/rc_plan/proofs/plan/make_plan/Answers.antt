-- The plan has what every plan of its job has, and is refused by the limit of the planned items.
use Rattle.std.proofs.Common.{⊎_elim, inl, inr, refl, sym, ap, subst, ◌∙◌}
use Rattle.rc_class.specs.declared.plan.Plan.{Plan}
use Rattle.rc_class.specs.Start.{IsPlanOf}
use Rattle.rc_filter.specs.Acts.{copies_bytes}
use Rattle.rc_plan.specs.Limits.{limit_of}
use Rattle.rc_plan.specs.Plan.{limit_in, start_in, IsMadeFor}
use Rattle.rc_plan.proofs.Plans.{below_root, is_plan, limit_so, refuses_so}
use Rattle.rc_plan.proofs.plan.make_plan.Goals as goal

pub returns-in-Ok-check_limits-clause-plan : goal.returns-in-Ok-check_limits-clause-plan
returns-in-Ok-check_limits-clause-plan g c = λ tells.
    let job = c.args.job.now in
    let told = (g.S.Site.view c.args.site.now).told in
    subst (IsPlanOf (start_in job told)) (sym c.plan_of.ensures)
    (is_plan job told c.args.moment c.in-Ok.items.items c.in-Ok.ensures.rising (c.in-Ok.ensures.decided tells))

pub returns-in-Ok-check_limits-clause-within : goal.returns-in-Ok-check_limits-clause-within
returns-in-Ok-check_limits-clause-within g c = λ tells.
    let job = c.args.job.now in
    let told = (g.S.Site.view c.args.site.now).told in
    limit_so job told c.args.moment c.in-Ok.items.items _ (c.plans_have_the_planned_items.ensures job told.source told.target)
    c.in-Ok.ensures.rising (c.in-Ok.ensures.decided tells)
    (ap (limit_of (copies_bytes job)) (sym c.deref.ensures.value) ∙ ap (λ bytes. limit_of bytes c.deref.result.now) (sym c.copies_bytes.ensures) ∙ c.in-Ok-check_limits.ensures.within)

pub returns-in-Ok-check_limits-clause-made : goal.returns-in-Ok-check_limits-clause-made
returns-in-Ok-check_limits-clause-made g c =
    let items = c.in-Ok.items.items in
    subst (λ (plan : Plan). IsMadeFor c.args.job.now c.args.moment plan) (sym c.plan_of.ensures)
    (record {
      moment = refl;
      stride = refl;
      with_bytes = refl;
      rising = c.in-Ok.ensures.rising;
      below = below_root items c.in-Ok.ensures.root;
      limits = ap (limit_of (copies_bytes c.args.job.now)) (sym c.deref.ensures.value) ∙ ap (λ bytes. limit_of bytes c.deref.result.now) (sym c.copies_bytes.ensures) ∙ c.in-Ok-check_limits.ensures.within;
    })

pub returns-in-Err-clause-refused : goal.returns-in-Err-clause-refused
returns-in-Err-clause-refused g c = λ tells.
    let job = c.args.job.now in
    let told = (g.S.Site.view c.args.site.now).told in
    let items = c.in-Ok.items.items in
    refuses_so (limit_in job told c.args.moment) c.in-Err.e
    (⊎_elim (λ none. inl none)
    (λ passed.
    inr (limit_so job told c.args.moment items _ (c.plans_have_the_planned_items.ensures job told.source told.target)
    c.in-Ok.ensures.rising (c.in-Ok.ensures.decided tells)
    (ap (limit_of (copies_bytes job)) (sym c.deref.ensures.value) ∙ ap (λ bytes. limit_of bytes c.deref.result.now) (sym c.copies_bytes.ensures) ∙ passed)))
    c.in-Err.ensures.beyond)
