-- What is done to the source comes behind the target.
use Rattle.std.proofs.Common.{inl, refl, sym, ap, subst}
use Rattle.std.specs.FinMap.{get}
use Rattle.rc_tree.specs.Tree.{Tree}
use Rattle.rc_finish.specs.Passes.{AreWhole, ToRemove}
use Rattle.rc_plan.specs.Plan.{start_in}
use Rattle.rc_run.specs.declared.outcome.Outcome.{Outcome}
use Rattle.rc_run.specs.Answers.{copying_of}
use Rattle.rc_run.specs.Outcome.{cause_of, ending, WaitsFor}
use Rattle.rc_run.specs.Under.{AreUnderWay, ChangesTrees, HaveGoals}
use Rattle.rc_run.proofs.ReleaseLemmas.{are_releasing, calls_go_on, changes_both, lasting_on_both, pass_goes_on, released_from, releases_last}
use Rattle.rc_run.proofs.RunLemmas.{counts_free, fault_counts, law_of}
use Rattle.rc_run.proofs.WaitLemmas.{pass_waits, waits_on_then}
use Rattle.rc_run.proofs.trees.change_trees.Goals as goal

pub release_sources-requires-clause-whole : goal.release_sources-requires-clause-whole
release_sources-requires-clause-whole g c κs within = λ tells.
    let job = c.args.job.now in
    let plan = c.args.plan.now in
    let start = (g.S.Site.view c.args.site.now).told in
    subst (λ (t : Tree). AreWhole ToRemove plan.items t) (sym (c.in-Ok.ensures.frame.source tells))
    (c.trees_on_their_way_fit.ensures.freeing plan.items start
    (c.a_plan_fits.ensures.fit (start_in job start) plan start (c.requires.plan tells)
    (law_of job start plan.moment c.decided_items.ensures (c.requires.trees tells)) refl refl))

pub returns-in-Ok-release_sources-clause-frame : goal.returns-in-Ok-release_sources-clause-frame
returns-in-Ok-release_sources-clause-frame g c =
    changes_both g.S.Site.tells _ _ _ _ _ c.in-Ok.ensures.frame c.in-Ok-release_sources.ensures.frame
    (counts_free _ _ _ c.in-Ok.ensures.frame.counts c.in-Ok-release_sources.ensures.frame.counts)

pub returns-in-Ok-release_sources-clause-goals : goal.returns-in-Ok-release_sources-clause-goals
returns-in-Ok-release_sources-clause-goals g c = λ tells.
    let job = c.args.job.now in
    let plan = c.args.plan.now in
    subst (λ (t : Tree). HaveGoals (copying_of job plan.moment) plan.items (g.S.Site.view c.args.site.now).told t)
    (sym (c.in-Ok-release_sources.ensures.frame.other_tree tells)) (c.in-Ok.ensures.goals tells)

pub returns-in-Ok-release_sources-clause-released : goal.returns-in-Ok-release_sources-clause-released
returns-in-Ok-release_sources-clause-released g c = λ tells.
    let items = c.args.plan.now.items in
    let mid = (g.S.Site.view c.change_target.new.site).told in
    released_from items (g.S.Site.view c.args.site.now).told mid (g.S.Site.view c.release_sources.new.site).told.source
    (c.in-Ok.ensures.frame.source tells)
    (c.a_freed_source_has_its_goal.ensures items mid (g.S.Site.view c.release_sources.new.site).told.source (c.in-Ok-release_sources.ensures.freed tells))

pub returns-in-Ok-release_sources-clause-under_way : goal.returns-in-Ok-release_sources-clause-under_way
returns-in-Ok-release_sources-clause-under_way g c = λ tells.
    let job = c.args.job.now in
    let plan = c.args.plan.now in
    subst (λ (t : Tree). AreUnderWay (copying_of job plan.moment) plan.items (g.S.Site.view c.args.site.now).told t)
    (sym (c.in-Ok-release_sources.ensures.frame.other_tree tells)) (c.in-Ok.ensures.under_way tells)

pub returns-in-Ok-release_sources-clause-releasing : goal.returns-in-Ok-release_sources-clause-releasing
returns-in-Ok-release_sources-clause-releasing g c = λ tells.
    are_releasing c.args.plan.now.items (g.S.Site.view c.args.site.now).told (g.S.Site.view c.change_target.new.site).told (g.S.Site.view c.release_sources.new.site).told.source
    (c.in-Ok.ensures.frame.source tells) (c.release_sources.ensures.between tells)

pub returns-in-Ok-release_sources-clause-in_order : goal.returns-in-Ok-release_sources-clause-in_order
returns-in-Ok-release_sources-clause-in_order g c = λ tells.
    let job = c.args.job.now in
    let plan = c.args.plan.now in
    let mid = g.S.Site.view c.change_target.new.site in
    let end = g.S.Site.view c.release_sources.new.site in
    releases_last (copying_of job plan.moment) plan.items (g.S.Site.view c.args.site.now) mid end
    (c.in-Ok.ensures.frame.log tells) (c.in-Ok.ensures.goals tells) (c.in-Ok.ensures.lasting tells)
    (c.in-Ok-release_sources.ensures.frame.other_tree tells)
    (pass_goes_on mid.told plan.items _ end.told.source mid.log end.log (c.in-Ok-release_sources.ensures.durable tells))

pub returns-in-Ok-release_sources-clause-lasting : goal.returns-in-Ok-release_sources-clause-lasting
returns-in-Ok-release_sources-clause-lasting g c = λ tells.
    lasting_on_both c.args.plan.now.items (g.S.Site.view c.change_target.new.site) (g.S.Site.view c.release_sources.new.site)
    c.a_pass_is_durable.ensures.freed (c.in-Ok.ensures.lasting tells) (c.in-Ok-release_sources.ensures.frame.log tells)
    (c.in-Ok-release_sources.ensures.frame.other_tree tells) (c.in-Ok-release_sources.ensures.durable tells)

pub returns-in-Ok-release_sources-clause-waits : goal.returns-in-Ok-release_sources-clause-waits
returns-in-Ok-release_sources-clause-waits g c = waits_on_then _ _ _ _ _ _ _ _ c.in-Ok.ensures.waits c.in-Ok-release_sources.ensures.waits

pub returns-in-Err-release_sources-clause-frame : goal.returns-in-Err-release_sources-clause-frame
returns-in-Err-release_sources-clause-frame g c =
    let retries = c.args.job.now.retries in
    let start = g.S.Site.view c.args.site.now in
    let end = g.S.Site.view c.release_sources.new.site in
    subst (λ (o : Outcome). ChangesTrees g.S.Site.tells (cause_of retries (ending o)) start end) (sym c.unfinished.ensures)
    (changes_both g.S.Site.tells _ _ _ _ _ c.in-Ok.ensures.frame c.in-Err-release_sources.ensures.frame
    (fault_counts retries c.in-Err-release_sources.e _ _ _ c.in-Ok.ensures.frame.counts c.in-Err-release_sources.ensures.frame.counts))

pub returns-in-Err-release_sources-clause-under_way : goal.returns-in-Err-release_sources-clause-under_way
returns-in-Err-release_sources-clause-under_way g c = λ tells.
    let job = c.args.job.now in
    let plan = c.args.plan.now in
    subst (λ (t : Tree). AreUnderWay (copying_of job plan.moment) plan.items (g.S.Site.view c.args.site.now).told t)
    (sym (c.in-Err-release_sources.ensures.frame.other_tree tells)) (c.in-Ok.ensures.under_way tells)

pub returns-in-Err-release_sources-clause-releasing : goal.returns-in-Err-release_sources-clause-releasing
returns-in-Err-release_sources-clause-releasing g c = λ tells.
    are_releasing c.args.plan.now.items (g.S.Site.view c.args.site.now).told (g.S.Site.view c.change_target.new.site).told (g.S.Site.view c.release_sources.new.site).told.source
    (c.in-Ok.ensures.frame.source tells) (c.release_sources.ensures.between tells)

pub returns-in-Err-release_sources-clause-in_order : goal.returns-in-Err-release_sources-clause-in_order
returns-in-Err-release_sources-clause-in_order g c = λ tells.
    let job = c.args.job.now in
    let plan = c.args.plan.now in
    let mid = g.S.Site.view c.change_target.new.site in
    let end = g.S.Site.view c.release_sources.new.site in
    releases_last (copying_of job plan.moment) plan.items (g.S.Site.view c.args.site.now) mid end
    (c.in-Ok.ensures.frame.log tells) (c.in-Ok.ensures.goals tells) (c.in-Ok.ensures.lasting tells)
    (c.in-Err-release_sources.ensures.frame.other_tree tells)
    (calls_go_on mid.told plan.items mid.log end.log (c.in-Err-release_sources.ensures.calls tells))

pub returns-in-Err-release_sources-clause-waits : goal.returns-in-Err-release_sources-clause-waits
returns-in-Err-release_sources-clause-waits g c =
    let job = c.args.job.now in
    subst (λ (o : Outcome). WaitsFor job.wait job.retries o (g.S.Site.view c.args.site.now) (g.S.Site.view c.release_sources.new.site) (g.C.Clock.paused c.args.clock.now) (g.C.Clock.paused c.release_sources.new.clock)) (sym c.unfinished.ensures)
    (waits_on_then _ _ _ _ _ _ _ _ c.in-Ok.ensures.waits
    (pass_waits job.wait job.retries c.in-Err-release_sources.e _ _ _ _ c.in-Err-release_sources.ensures.waits))

pub returns-in-Err-clause-releasing : goal.returns-in-Err-clause-releasing
returns-in-Err-clause-releasing g c = λ tells key. inl (ap (λ (t : Tree). get t key) (c.in-Err.ensures.frame.source tells))

pub returns-in-Err-clause-in_order : goal.returns-in-Err-clause-in_order
returns-in-Err-clause-in_order g c = λ tells. inl (c.in-Err.ensures.frame.source tells, c.in-Err.ensures.frame.log tells)
