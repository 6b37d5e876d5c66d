-- Directories are made, and then what is to be purged is removed.
use Rattle.rc_run.proofs.RunLemmas.{two_passes}
use Rattle.rc_run.proofs.WaitLemmas.{waits_on_then}
use Rattle.rc_run.proofs.trees.ready_target.Goals as goal

pub purge-requires-clause-whole : goal.purge-requires-clause-whole
purge-requires-clause-whole g c κs within = λ tells.
    let items = c.args.plan.now.items in
    let start = (g.S.Site.view c.args.site.now).told in
    let one = (g.S.Site.view c.make_dirs.new.site).told in
    let fit = c.requires.fit tells in
    c.trees_on_their_way_fit.ensures.purging items one
    (c.trees_on_their_way_fit.ensures.fit items start one c.requires.below fit (c.in-Ok.ensures.frame.other_tree tells)
    (c.trees_on_their_way_fit.ensures.made items start one.target fit (c.make_dirs.ensures.between tells)))

pub returns-in-Ok-clause-frame : goal.returns-in-Ok-clause-frame
returns-in-Ok-clause-frame g c = two_passes g.S.Site.tells c.args.retries c.purge.result _ _ _ c.in-Ok.ensures.frame c.purge.ensures.frame

pub returns-in-Ok-clause-waits : goal.returns-in-Ok-clause-waits
returns-in-Ok-clause-waits g c = waits_on_then _ _ _ _ _ _ _ _ c.in-Ok.ensures.waits c.purge.ensures.waits
