use Rattle.std.proofs.Common.{sym, ◌∙◌}
use Rattle.rc_volume.specs.declared.site.Side.TheVariants.{Target}
use Rattle.rc_finish.proofs.GiveLemmas.{look_then, same_given}
use Rattle.rc_finish.proofs.WaitLemmas.{waits_behind}
use Rattle.rc_finish.proofs.properties.give_from.Goals as goal

pub returns-in-Ok-clause-frame : goal.returns-in-Ok-clause-frame
returns-in-Ok-clause-frame g c =
    let giving = c.args.giving.now in
    look_then Target _ _ _ _ _ _ _ _ _ c.in-Ok-Some.ensures.frame
    (λ tells n done. done ∙ same_given giving.rules giving.moment c.args.item.now.act c.args.from.now c.in-Ok.props c.in-Ok-Some.old _ (sym c.in-Ok-Some.field-0-is ∙ c.in-Ok-Some.ensures.found tells) c.in-Ok.ensures)
    c.set.ensures.frame

pub returns-in-Ok-clause-waits : goal.returns-in-Ok-clause-waits
returns-in-Ok-clause-waits g c = waits_behind _ _ _ _ _ _ _ _ c.in-Ok-Some.ensures.waits c.set.ensures.waits
