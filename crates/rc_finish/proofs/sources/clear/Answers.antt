use Rattle.std.proofs.Common.{List, ◌∷◌, [], None, sym, subst, ◌∙◌}
use Rattle.rc_volume.specs.declared.site.Side.TheVariants.{Source}
use Rattle.rc_volume.specs.Log.{Event, set_props}
use Rattle.rc_finish.specs.Calls.{Frees, LogsCallsOn}
use Rattle.rc_finish.proofs.FreeLemmas.{cleared_so, clearing_so}
use Rattle.rc_finish.proofs.GiveLemmas.{look_then}
use Rattle.rc_finish.proofs.RemovalLemmas.{each_calls}
use Rattle.rc_finish.proofs.WaitLemmas.{waits_behind}
use Rattle.rc_finish.proofs.sources.clear.Goals as goal

pub returns-in-Ok-Some-clause-frame : goal.returns-in-Ok-Some-clause-frame
returns-in-Ok-Some-clause-frame g c =
    look_then Source _ _ _ _ _ _ _ _ _ c.in-Ok-Some.ensures.frame
    (λ tells n done. done ∙ cleared_so c.args.item.now c.without_archive-props.result c.in-Ok-Some.old None _ c.requires.own (sym c.in-Ok-Some.field-0-is ∙ c.in-Ok-Some.ensures.found tells) c.without_archive-props.ensures)
    c.set.ensures.frame

pub returns-in-Ok-Some-clause-calls : goal.returns-in-Ok-Some-clause-calls
returns-in-Ok-Some-clause-calls g c = λ tells.
    let item = c.args.item.now in
    let start = (g.S.Site.view c.args.site.now).told in
    let log = (g.S.Site.view c.look.new.site).log in
    let new = (g.S.Site.view c.set.new.site).log in
    let is = clearing_so item c.without_archive-props.result c.in-Ok-Some.old _ c.requires.own (sym c.in-Ok-Some.field-0-is ∙ c.in-Ok-Some.ensures.found tells) c.without_archive-props.ensures in
    subst (λ (old : List Event). LogsCallsOn Source (Frees start) (item ∷ []) old new) (c.in-Ok-Some.ensures.frame.log tells)
    (each_calls Source (Frees start) item (set_props c.without_archive-props.result) log new is (c.set.ensures.calls tells))

pub returns-in-Ok-Some-clause-waits : goal.returns-in-Ok-Some-clause-waits
returns-in-Ok-Some-clause-waits g c = waits_behind _ _ _ _ _ _ _ _ c.in-Ok-Some.ensures.waits c.set.ensures.waits
