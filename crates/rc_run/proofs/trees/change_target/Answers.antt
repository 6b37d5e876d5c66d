-- The passes over the target, one behind another, bring each of its keys to its goal.
use Rattle.std.proofs.Common.{List, refl, sym, subst, ◌∙◌}
use Rattle.rc_class.specs.declared.item.Item.{Item}
use Rattle.rc_class.specs.declared.rules.Rules.{Rules}
use Rattle.rc_copy.specs.declared.copying.Copying.{Copying}
use Rattle.rc_copy.specs.Copying.{AreBetween, AreCopyable, AreSmallCopies, CopiesFiles, copied}
use Rattle.rc_filter.specs.Acts.{rules_of}
use Rattle.rc_finish.specs.Passes.{HasPassed, IsPassing, given}
use Rattle.rc_plan.specs.Plan.{start_in}
use Rattle.rc_run.specs.declared.outcome.Outcome.{Outcome}
use Rattle.rc_run.specs.Answers.{copying_of}
use Rattle.rc_run.specs.Outcome.{cause_of, ending, WaitsFor}
use Rattle.rc_run.proofs.PassLemmas.{all_under_way, goals_by_passes, readying_under_way, none_given}
use Rattle.rc_run.proofs.RunLemmas.{all_passed, decided_so, given_then_failed, lasting, law_of, made_then_failed, passable, same_copying, small_copies}
use Rattle.rc_run.proofs.WaitLemmas.{copy_waits, pass_waits, unwaited_free, waits_on_then}
use Rattle.rc_run.proofs.trees.change_target.Goals as goal

pub ready_target-requires-clause-fit : goal.ready_target-requires-clause-fit
ready_target-requires-clause-fit g c κs within = λ tells.
    let job = c.args.job.now in
    let plan = c.args.plan.now in
    let start = (g.S.Site.view c.args.site.now).told in
    c.a_plan_fits.ensures.fit (start_in job start) plan start (c.requires.plan tells)
    (law_of job start plan.moment c.decided_items.ensures (c.requires.trees tells)) refl refl

pub copy_files-requires-clause-small : goal.copy_files-requires-clause-small
copy_files-requires-clause-small g c κs within = λ with_bytes.
    subst AreSmallCopies (sym c.items.ensures) (small_copies c.args.plan.now.items c.args.plan.now.with_bytes c.requires.made.limits with_bytes)

pub copy_files-requires-clause-copyable : goal.copy_files-requires-clause-copyable
copy_files-requires-clause-copyable g c κs within = λ tells.
    let job = c.args.job.now in
    let plan = c.args.plan.now in
    let start = (g.S.Site.view c.args.site.now).told in
    let one = (g.S.Site.view c.ready_target.new.site).told in
    subst (λ (items : List Item). AreCopyable one items) (sym c.items.ensures)
    (c.files_follow_their_directories.ensures plan.items start one c.requires.made.rising c.requires.made.below
    (c.a_plan_fits.ensures.fit (start_in job start) plan start (c.requires.plan tells)
    (law_of job start plan.moment c.decided_items.ensures (c.requires.trees tells)) refl refl)
    (decided_so plan.items start (passable job start plan c.decided_items.ensures (c.requires.trees tells) (c.requires.plan tells)))
    (c.in-Ok.ensures.frame.other_tree tells) (c.in-Ok.ensures.readied tells))

pub returns-in-Ok-props_pass-clause-frame : goal.returns-in-Ok-props_pass-clause-frame
returns-in-Ok-props_pass-clause-frame g c =
    all_passed g.S.Site.tells _ _ _ _ c.in-Ok.ensures.frame c.in-Ok-copy_files.ensures.frame c.in-Ok-props_pass.ensures.frame

pub returns-in-Ok-props_pass-clause-goals : goal.returns-in-Ok-props_pass-clause-goals
returns-in-Ok-props_pass-clause-goals g c = λ tells.
    let job = c.args.job.now in
    let plan = c.args.plan.now in
    let start = (g.S.Site.view c.args.site.now).told in
    let one = (g.S.Site.view c.ready_target.new.site).told in
    let two = (g.S.Site.view c.copy_files.new.site).told in
    let end = (g.S.Site.view c.props_pass.new.site).told in
    let same = same_copying job plan c.rules.result c.rules.ensures c.requires.made.with_bytes in
    goals_by_passes (copying_of job plan.moment) plan.items start one two end
    (passable job start plan c.decided_items.ensures (c.requires.trees tells) (c.requires.plan tells))
    (c.in-Ok.ensures.frame.other_tree tells) (c.in-Ok-copy_files.ensures.frame.source tells ∙ c.in-Ok.ensures.frame.other_tree tells)
    (c.in-Ok.ensures.readied tells)
    (subst (λ (items : List Item). HasPassed (copied (copying_of job plan.moment)) items one two.target) c.items.ensures
    (subst (λ (copying : Copying). HasPassed (copied copying) c.items.result.now one two.target) same (c.in-Ok-copy_files.ensures.copied tells)))
    (subst (λ (rules : Rules). HasPassed (given rules plan.moment) plan.items two end.target) c.rules-in-Ok-copy_files.ensures (c.in-Ok-props_pass.ensures.given tells))

pub returns-in-Ok-props_pass-clause-under_way : goal.returns-in-Ok-props_pass-clause-under_way
returns-in-Ok-props_pass-clause-under_way g c = λ tells.
    let job = c.args.job.now in
    let plan = c.args.plan.now in
    let start = (g.S.Site.view c.args.site.now).told in
    let one = (g.S.Site.view c.ready_target.new.site).told in
    let two = (g.S.Site.view c.copy_files.new.site).told in
    let end = (g.S.Site.view c.props_pass.new.site).told in
    let same = same_copying job plan c.rules.result c.rules.ensures c.requires.made.with_bytes in
    all_under_way (copying_of job plan.moment) plan.items start one two end.target
    (passable job start plan c.decided_items.ensures (c.requires.trees tells) (c.requires.plan tells))
    (c.in-Ok.ensures.frame.other_tree tells) (c.in-Ok-copy_files.ensures.frame.source tells ∙ c.in-Ok.ensures.frame.other_tree tells)
    (c.in-Ok.ensures.readied tells)
    (subst (λ (items : List Item). AreBetween (copying_of job plan.moment) items one two.target) c.items.ensures
    (subst (λ (copying : Copying). AreBetween copying c.items.result.now one two.target) same (c.in-Ok-copy_files.ensures.between tells)))
    (subst (λ (rules : Rules). IsPassing (given rules plan.moment) plan.items two end.target) c.rules-in-Ok-copy_files.ensures (c.in-Ok-props_pass.ensures.between tells))

pub returns-in-Ok-props_pass-clause-lasting : goal.returns-in-Ok-props_pass-clause-lasting
returns-in-Ok-props_pass-clause-lasting g c = λ tells.
    let plan = c.args.plan.now in
    let one = g.S.Site.view c.ready_target.new.site in
    let two = g.S.Site.view c.copy_files.new.site in
    let rules = c.rules-in-Ok-copy_files.result in
    lasting rules plan.moment plan.items c.items.result.now one two (g.S.Site.view c.props_pass.new.site)
    (λ tree old new. c.a_pass_is_durable.ensures.given rules plan.moment two.told plan.items tree old new)
    c.items.ensures (c.in-Ok.ensures.durable tells) (λ none. c.copy_files.ensures.idle none tells) (c.in-Ok-copy_files.ensures.durable tells) (c.in-Ok-props_pass.ensures.durable tells) (c.in-Ok-props_pass.ensures.given tells)

pub returns-in-Err-props_pass-clause-frame : goal.returns-in-Err-props_pass-clause-frame
returns-in-Err-props_pass-clause-frame g c =
    let start = g.S.Site.view c.args.site.now in
    let end = g.S.Site.view c.props_pass.new.site in
    subst (λ (o : Outcome). CopiesFiles g.S.Site.tells (cause_of c.args.job.now.retries (ending o)) start end) (sym c.unfinished.ensures)
    (given_then_failed c.args.job.now.retries g.S.Site.tells c.in-Err-props_pass.e _ _ _ _ c.in-Ok.ensures.frame c.in-Ok-copy_files.ensures.frame c.in-Err-props_pass.ensures.frame)

pub returns-in-Err-props_pass-clause-under_way : goal.returns-in-Err-props_pass-clause-under_way
returns-in-Err-props_pass-clause-under_way g c = λ tells.
    let job = c.args.job.now in
    let plan = c.args.plan.now in
    let start = (g.S.Site.view c.args.site.now).told in
    let one = (g.S.Site.view c.ready_target.new.site).told in
    let two = (g.S.Site.view c.copy_files.new.site).told in
    let end = (g.S.Site.view c.props_pass.new.site).told in
    let same = same_copying job plan c.rules.result c.rules.ensures c.requires.made.with_bytes in
    all_under_way (copying_of job plan.moment) plan.items start one two end.target
    (passable job start plan c.decided_items.ensures (c.requires.trees tells) (c.requires.plan tells))
    (c.in-Ok.ensures.frame.other_tree tells) (c.in-Ok-copy_files.ensures.frame.source tells ∙ c.in-Ok.ensures.frame.other_tree tells)
    (c.in-Ok.ensures.readied tells)
    (subst (λ (items : List Item). AreBetween (copying_of job plan.moment) items one two.target) c.items.ensures
    (subst (λ (copying : Copying). AreBetween copying c.items.result.now one two.target) same (c.in-Ok-copy_files.ensures.between tells)))
    (subst (λ (rules : Rules). IsPassing (given rules plan.moment) plan.items two end.target) c.rules-in-Ok-copy_files.ensures (c.in-Err-props_pass.ensures.between tells))

pub returns-in-Err-copy_files-clause-frame : goal.returns-in-Err-copy_files-clause-frame
returns-in-Err-copy_files-clause-frame g c =
    let start = g.S.Site.view c.args.site.now in
    let two = g.S.Site.view c.copy_files.new.site in
    subst (λ (o : Outcome). CopiesFiles g.S.Site.tells (cause_of c.args.job.now.retries (ending o)) start two) (sym c.uncopied.ensures)
    (made_then_failed c.args.job.now.retries g.S.Site.tells c.in-Err-copy_files.e _ _ _ c.in-Ok.ensures.frame c.in-Err-copy_files.ensures.frame)

pub returns-in-Err-copy_files-clause-under_way : goal.returns-in-Err-copy_files-clause-under_way
returns-in-Err-copy_files-clause-under_way g c = λ tells.
    let job = c.args.job.now in
    let plan = c.args.plan.now in
    let start = (g.S.Site.view c.args.site.now).told in
    let one = (g.S.Site.view c.ready_target.new.site).told in
    let two = (g.S.Site.view c.copy_files.new.site).told in
    let same = same_copying job plan c.rules.result c.rules.ensures c.requires.made.with_bytes in
    all_under_way (copying_of job plan.moment) plan.items start one two two.target
    (passable job start plan c.decided_items.ensures (c.requires.trees tells) (c.requires.plan tells))
    (c.in-Ok.ensures.frame.other_tree tells) (c.in-Err-copy_files.ensures.frame.source tells ∙ c.in-Ok.ensures.frame.other_tree tells)
    (c.in-Ok.ensures.readied tells)
    (subst (λ (items : List Item). AreBetween (copying_of job plan.moment) items one two.target) c.items.ensures
    (subst (λ (copying : Copying). AreBetween copying c.items.result.now one two.target) same (c.in-Err-copy_files.ensures.between tells)))
    (none_given (given (rules_of job) plan.moment) plan.items two)

pub returns-in-Err-clause-under_way : goal.returns-in-Err-clause-under_way
returns-in-Err-clause-under_way g c = λ tells.
    let job = c.args.job.now in
    let plan = c.args.plan.now in
    let start = (g.S.Site.view c.args.site.now).told in
    readying_under_way (copying_of job plan.moment) plan.items start (g.S.Site.view c.ready_target.new.site).told.target (c.in-Err.ensures.between tells)

pub returns-in-Ok-props_pass-clause-waits : goal.returns-in-Ok-props_pass-clause-waits
returns-in-Ok-props_pass-clause-waits g c =
    waits_on_then _ _ _ _ _ _ _ _ (waits_on_then _ _ _ _ _ _ _ _ c.in-Ok.ensures.waits (unwaited_free _ _ _ _ c.in-Ok-copy_files.ensures.frame.counts)) c.in-Ok-props_pass.ensures.waits

pub returns-in-Err-props_pass-clause-waits : goal.returns-in-Err-props_pass-clause-waits
returns-in-Err-props_pass-clause-waits g c =
    let job = c.args.job.now in
    subst (λ (o : Outcome). WaitsFor job.wait job.retries o (g.S.Site.view c.args.site.now) (g.S.Site.view c.props_pass.new.site) (g.C.Clock.paused c.args.clock.now) (g.C.Clock.paused c.props_pass.new.clock)) (sym c.unfinished.ensures)
    (waits_on_then _ _ _ _ _ _ _ _ (waits_on_then _ _ _ _ _ _ _ _ c.in-Ok.ensures.waits (unwaited_free _ _ _ _ c.in-Ok-copy_files.ensures.frame.counts))
    (pass_waits job.wait job.retries c.in-Err-props_pass.e _ _ _ _ c.in-Err-props_pass.ensures.waits))

pub returns-in-Err-copy_files-clause-waits : goal.returns-in-Err-copy_files-clause-waits
returns-in-Err-copy_files-clause-waits g c =
    let job = c.args.job.now in
    subst (λ (o : Outcome). WaitsFor job.wait job.retries o (g.S.Site.view c.args.site.now) (g.S.Site.view c.copy_files.new.site) (g.C.Clock.paused c.args.clock.now) (g.C.Clock.paused c.ready_target.new.clock)) (sym c.uncopied.ensures)
    (waits_on_then _ _ _ _ _ _ _ _ c.in-Ok.ensures.waits (copy_waits job.wait job.retries c.in-Err-copy_files.e _ _ _ c.in-Err-copy_files.ensures.frame.counts))

pub returns-in-Err-clause-waits : goal.returns-in-Err-clause-waits
returns-in-Err-clause-waits g c =
    let job = c.args.job.now in
    subst (λ (o : Outcome). WaitsFor job.wait job.retries o (g.S.Site.view c.args.site.now) (g.S.Site.view c.ready_target.new.site) (g.C.Clock.paused c.args.clock.now) (g.C.Clock.paused c.ready_target.new.clock)) (sym c.unfinished-in-Err.ensures)
    (pass_waits job.wait job.retries c.in-Err.e _ _ _ _ c.in-Err.ensures.waits)
