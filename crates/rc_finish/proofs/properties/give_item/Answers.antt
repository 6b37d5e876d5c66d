use Rattle.std.proofs.Common.{◌≡◌, true, List, [], ◌∷◌, sym, subst, ◌∙◌, rules}
use Rattle.rc_tree.specs.Path.{key_of}
use Rattle.rc_volume.specs.declared.site.Side.TheVariants.{Target}
use Rattle.rc_volume.specs.Log.{Event}
use Rattle.rc_volume.specs.Site.{Told, node_at}
use Rattle.rc_finish.specs.Calls.{Gives, LogsCalls, LogsGiven}
use Rattle.rc_finish.specs.Passes.{given, gives_props}
use Rattle.rc_finish.proofs.GiveLemmas.{calls_given, given_so, look_then}
use Rattle.rc_finish.proofs.WaitLemmas.{waits_behind, waits_not}
use Rattle.rc_finish.proofs.properties.give_item.Goals as goal

pub returns-then-not-gives-clause-waits : goal.returns-then-not-gives-clause-waits
returns-then-not-gives-clause-waits g c = waits_not _ _ _

pub returns-in-Ok-Some-clause-frame : goal.returns-in-Ok-Some-clause-frame
returns-in-Ok-Some-clause-frame g c =
    let giving = c.args.giving.now in
    let own : gives_props c.args.item.now.act ≡ true = search rules in
    look_then Target _ _ _ _ _ _ _ _ _ c.in-Ok-Some.ensures.frame
    (λ tells n done. done ∙ given_so giving.rules giving.moment c.args.item.now c.in-Ok-Some.from _ _ own (sym c.in-Ok-Some.field-0-is ∙ c.in-Ok-Some.ensures.found tells))
    c.give_from.ensures.frame

pub returns-in-Ok-Some-clause-calls : goal.returns-in-Ok-Some-clause-calls
returns-in-Ok-Some-clause-calls g c = λ tells.
    let giving = c.args.giving.now in
    let item = c.args.item.now in
    let start = (g.S.Site.view c.args.site.now).told in
    let new = (g.S.Site.view c.give_from.new.site).log in
    let own : gives_props item.act ≡ true = search rules in
    let found = sym c.in-Ok-Some.field-0-is ∙ c.in-Ok-Some.ensures.found tells in
    let log = (g.S.Site.view c.look.new.site).log in
    let calls = subst (λ (told : Told). LogsGiven giving.rules giving.moment item c.in-Ok-Some.from.props (node_at told Target (key_of item.path)) log new) (c.in-Ok-Some.ensures.frame.told tells) (c.give_from.ensures.calls tells) in
    subst (λ (old : List Event). LogsCalls (Gives (given giving.rules giving.moment) start) (item ∷ []) old new) (c.in-Ok-Some.ensures.frame.log tells)
    (calls_given giving.rules giving.moment item c.in-Ok-Some.from start log new own found calls)

pub returns-in-Ok-Some-clause-waits : goal.returns-in-Ok-Some-clause-waits
returns-in-Ok-Some-clause-waits g c = waits_behind _ _ _ _ _ _ _ _ c.in-Ok-Some.ensures.waits c.give_from.ensures.waits
