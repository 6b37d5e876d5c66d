use Rattle.std.proofs.Common.{◌≡◌, List, sym, ap, subst, ◌∙◌, rules, tests}
use Rattle.std.specs.List.{list_any}
use Rattle.std.proofs.lemmas.Iterator.Search.{any_from_yields_List}
use Rattle.std.proofs.lemmas.Iterator.{YieldsList-from_slice}
use Rattle.rc_class.specs.declared.item.Item.{Item}
use Rattle.rc_volume.specs.declared.site.Side.TheVariants.{Target}
use Rattle.rc_finish.specs.Calls.{LogsCalls, Purges}
use Rattle.rc_finish.specs.Passes.{has_any, is_purge, AreWhole, ToPurge}
use Rattle.rc_finish.proofs.PassLemmas.{pass_synced, side_synced}
use Rattle.rc_finish.proofs.WaitLemmas.{waits_behind}
use Rattle.rc_finish.proofs.purging.purge.Goals as goal

pub purge_each-requires-clause-whole : goal.purge_each-requires-clause-whole
purge_each-requires-clause-whole g c κs within tells =
    subst (λ (items : List Item). AreWhole ToPurge items (g.S.Site.view c.args.site.now).told.target) (sym c.items-items.ensures) (c.requires.whole tells)

pub returns-in-Ok-clause-frame : goal.returns-in-Ok-clause-frame
returns-in-Ok-clause-frame g c = side_synced Target _ _ _ _ _ _ c.in-Ok.ensures.frame c.sync.ensures.frame

pub returns-in-Ok-clause-waits : goal.returns-in-Ok-clause-waits
returns-in-Ok-clause-waits g c = waits_behind _ _ _ _ _ _ _ _ c.in-Ok.ensures.waits c.sync.ensures.waits

pub returns-in-Ok-clause-durable : goal.returns-in-Ok-clause-durable
returns-in-Ok-clause-durable g c = λ tells.
    let items = c.args.plan.now.items in
    let any : c.any.result ≡ list_any (λ item. is_purge item.act) c.items-items.result.now =
    any_from_yields_List (λ item. is_purge item.act) _ _ c.any.result c.any.ensures.ran (YieldsList-from_slice c.items-items.result.now c.iter.ensures.rest) (λ x b q k. search (rules, tests)) in
    let asked : c.any.result ≡ has_any is_purge items = any ∙ ap (λ (all : List Item). list_any (λ item. is_purge item.act) all) c.items-items.ensures in
    let start = (g.S.Site.view c.args.site.now).log in
    let mid = (g.S.Site.view c.purge_each.new.site).log in
    let called = subst (λ (all : List Item). LogsCalls Purges all start mid) c.items-items.ensures (c.purge_each.ensures.calls tells) in
    pass_synced Target c.sync.result c.any.result (has_any is_purge items) Purges items (g.S.Site.view c.purge_each.new.site).told (g.S.Site.view c.sync.new.site).told start mid (g.S.Site.view c.sync.new.site).log asked (c.sync.ensures.frame.told tells) called (c.sync.ensures.log tells) (c.sync.ensures.tree tells)
