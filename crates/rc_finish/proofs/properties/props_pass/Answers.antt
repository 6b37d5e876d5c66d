use Rattle.std.proofs.Common.{◌≡◌, List, ap, subst, ◌∙◌, rules, tests}
use Rattle.std.specs.List.{list_any}
use Rattle.std.proofs.lemmas.Iterator.Search.{any_from_yields_List}
use Rattle.std.proofs.lemmas.Iterator.{YieldsList-from_slice}
use Rattle.rc_class.specs.declared.item.Item.{Item}
use Rattle.rc_volume.specs.declared.site.Side.TheVariants.{Target}
use Rattle.rc_finish.specs.Calls.{Gives, LogsCalls}
use Rattle.rc_finish.specs.Passes.{given, gives_props, has_any}
use Rattle.rc_finish.proofs.PassLemmas.{pass_synced, side_synced}
use Rattle.rc_finish.proofs.WaitLemmas.{waits_behind}
use Rattle.rc_finish.proofs.properties.props_pass.Goals as goal

pub returns-in-Ok-clause-frame : goal.returns-in-Ok-clause-frame
returns-in-Ok-clause-frame g c = side_synced Target _ _ _ _ _ _ c.in-Ok.ensures.frame c.sync.ensures.frame

pub returns-in-Ok-clause-waits : goal.returns-in-Ok-clause-waits
returns-in-Ok-clause-waits g c = waits_behind _ _ _ _ _ _ _ _ c.in-Ok.ensures.waits c.sync.ensures.waits

pub returns-in-Ok-clause-durable : goal.returns-in-Ok-clause-durable
returns-in-Ok-clause-durable g c = λ tells.
    let items = c.args.plan.now.items in
    let told = (g.S.Site.view c.args.site.now).told in
    let calls = Gives (given c.args.rules c.args.plan.now.moment) told in
    let any : c.any.result ≡ list_any (λ item. gives_props item.act) c.items-items.result.now =
    any_from_yields_List (λ item. gives_props item.act) _ _ c.any.result c.any.ensures.ran (YieldsList-from_slice c.items-items.result.now c.iter.ensures.rest) (λ x b q k. search (rules, tests)) in
    let asked : c.any.result ≡ has_any gives_props items = any ∙ ap (λ (all : List Item). list_any (λ item. gives_props item.act) all) c.items-items.ensures in
    let start = (g.S.Site.view c.args.site.now).log in
    let mid = (g.S.Site.view c.give_each.new.site).log in
    let called = subst (λ (all : List Item). LogsCalls calls all start mid) c.items-items.ensures (c.give_each.ensures.calls tells) in
    pass_synced Target c.sync.result c.any.result (has_any gives_props items) calls items (g.S.Site.view c.give_each.new.site).told (g.S.Site.view c.sync.new.site).told start mid (g.S.Site.view c.sync.new.site).log asked (c.sync.ensures.frame.told tells) called (c.sync.ensures.log tells) (c.sync.ensures.tree tells)
