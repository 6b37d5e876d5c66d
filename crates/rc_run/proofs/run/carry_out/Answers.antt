-- What the changes leave is what a run of the job leaves.
use Rattle.std.proofs.Common.{arith}
use Rattle.rc_run.proofs.RunLemmas.{EndsAt-mode, leaves_done, leaves_failed, mirrored, silent_so}
use Rattle.rc_run.proofs.run.carry_out.Goals as goal

pub returns-in-Ok-clause-leaves : goal.returns-in-Ok-clause-leaves
returns-in-Ok-clause-leaves g c = λ tells.
    let job = c.args.job.now in
    let plan = c.args.plan.now in
    let start = (g.S.Site.view c.args.site.now).told in
    let now = (g.S.Site.view c.change_unless_listed.new.site).told in
    leaves_done job plan start now c.write_report.result
    (c.plans_have_the_planned_items.ensures job start.source start.target plan (c.requires.plan tells))
    (λ carried. mirrored job plan start now (c.requires.plan tells) (c.in-Ok.ensures.goals tells carried) (c.in-Ok.ensures.released tells carried) (c.in-Ok.ensures.frame.notes tells) (c.requires.no_record tells carried))
    (λ lists. (c.in-Ok.ensures.listed tells lists).told)
    (c.in-Ok.ensures.under_way tells) (c.in-Ok.ensures.releasing tells) (c.in-Ok.ensures.frame.notes tells) c.write_report.ensures.ends

pub returns-in-Ok-clause-reported : goal.returns-in-Ok-clause-reported
returns-in-Ok-clause-reported g c = λ tells.
    let job = c.args.job.now in
    let start = (g.S.Site.view c.args.site.now).told in
    let now = (g.S.Site.view c.change_unless_listed.new.site).told in
    silent_so _ _ job c.args.plan.now.moment start now
    (λ carried. mirrored job c.args.plan.now start now (c.requires.plan tells) (c.in-Ok.ensures.goals tells carried) (c.in-Ok.ensures.released tells carried) (c.in-Ok.ensures.frame.notes tells) (c.requires.no_record tells carried))

pub returns-in-Err-clause-leaves : goal.returns-in-Err-clause-leaves
returns-in-Err-clause-leaves g c = λ tells.
    let job = c.args.job.now in
    let plan = c.args.plan.now in
    let start = (g.S.Site.view c.args.site.now).told in
    leaves_failed job plan start (g.S.Site.view c.change_unless_listed.new.site).told c.in-Err.e
    (c.plans_have_the_planned_items.ensures job start.source start.target plan (c.requires.plan tells))
    (λ lists. (c.in-Err.ensures.listed tells lists).told)
    (c.in-Err.ensures.under_way tells) (c.in-Err.ensures.releasing tells) (c.in-Err.ensures.frame.notes tells) c.in-Err.ensures.ends

pub returns-in-Err-clause-modes : goal.returns-in-Err-clause-modes
returns-in-Err-clause-modes g c = EndsAt-mode c.args.job.now _ _ _ c.in-Err.e (omega arith) c.in-Err.ensures.ends
