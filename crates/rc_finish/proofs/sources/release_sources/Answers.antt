use Rattle.std.proofs.Common.{◌≡◌, List, sym, ap, subst, ◌∙◌, rules, tests}
use Rattle.std.specs.List.{list_any}
use Rattle.std.proofs.lemmas.Iterator.Search.{any_from_yields_List}
use Rattle.std.proofs.lemmas.Iterator.{YieldsList-from_slice}
use Rattle.rc_class.specs.declared.item.Item.{Item}
use Rattle.rc_volume.specs.declared.site.Side.TheVariants.{Source}
use Rattle.rc_finish.specs.Calls.{Frees, LogsCallsOn}
use Rattle.rc_finish.specs.Passes.{frees_any, is_freed, AreWhole, ToRemove}
use Rattle.rc_finish.proofs.PassLemmas.{pass_synced, side_synced}
use Rattle.rc_finish.proofs.WaitLemmas.{waits_behind}
use Rattle.rc_finish.proofs.sources.release_sources.Goals as goal

pub free_each-requires-clause-whole : goal.free_each-requires-clause-whole
free_each-requires-clause-whole g c κs within tells =
    subst (λ (items : List Item). AreWhole ToRemove items (g.S.Site.view c.args.site.now).told.source) (sym c.items-items.ensures) (c.requires.whole tells)

pub returns-in-Ok-clause-frame : goal.returns-in-Ok-clause-frame
returns-in-Ok-clause-frame g c = side_synced Source _ _ _ _ _ _ c.in-Ok.ensures.frame c.sync.ensures.frame

pub returns-in-Ok-clause-waits : goal.returns-in-Ok-clause-waits
returns-in-Ok-clause-waits g c = waits_behind _ _ _ _ _ _ _ _ c.in-Ok.ensures.waits c.sync.ensures.waits

pub returns-in-Ok-clause-durable : goal.returns-in-Ok-clause-durable
returns-in-Ok-clause-durable g c = λ tells.
    let items = c.args.plan.now.items in
    let any : c.any.result ≡ list_any (λ item. is_freed item.after) c.items-items.result.now =
    any_from_yields_List (λ item. is_freed item.after) _ _ c.any.result c.any.ensures.ran (YieldsList-from_slice c.items-items.result.now c.iter.ensures.rest) (λ x b q k. search (rules, tests)) in
    let asked : c.any.result ≡ frees_any items = any ∙ ap (λ (all : List Item). list_any (λ item. is_freed item.after) all) c.items-items.ensures in
    let start = (g.S.Site.view c.args.site.now).log in
    let mid = (g.S.Site.view c.free_each.new.site).log in
    let called = subst (λ (all : List Item). LogsCallsOn Source (Frees (g.S.Site.view c.args.site.now).told) all start mid) c.items-items.ensures (c.free_each.ensures.calls tells) in
    pass_synced Source c.sync.result c.any.result (frees_any items) (Frees (g.S.Site.view c.args.site.now).told) items (g.S.Site.view c.free_each.new.site).told (g.S.Site.view c.sync.new.site).told start mid (g.S.Site.view c.sync.new.site).log asked (c.sync.ensures.frame.told tells) called (c.sync.ensures.log tells) (c.sync.ensures.tree tells)
