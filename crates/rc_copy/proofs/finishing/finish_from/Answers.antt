use Rattle.std.proofs.Common.{sym, ap, subst, ◌∙◌}
use Rattle.rc_tree.specs.declared.props.Props.{Props}
use Rattle.rc_tree.specs.Path.{key_of}
use Rattle.rc_class.specs.Goal.{copied_props}
use Rattle.rc_volume.specs.declared.site.Side.TheVariants.{Target}
use Rattle.rc_volume.specs.Site.{Told, node_at}
use Rattle.rc_copy.specs.Copying.{GivesProps}
use Rattle.rc_copy.proofs.NodeLemmas.{finishes_over, finishes_so, lonely_props}
use Rattle.std.proofs.Common.{rules}
use Rattle.rc_volume.specs.declared.site.Part.TheVariants as part
use Rattle.rc_volume.proofs.ImageLemmas.{logs_behind}
use Rattle.rc_copy.proofs.finishing.finish_from.Goals as goal

pub returns-then-is_lonely-clause-finished : goal.returns-then-is_lonely-clause-finished
returns-then-is_lonely-clause-finished g c = λ tells from same.
    let copying = c.args.copying.now in
    let lonely = sym c.is_lonely.ensures ∙ c.if-is_lonely.true in
    let props = copied_props copying.rules c.args.source.now c.fresh_props-old.result in
    finishes_so c.set_copied_props.result copying c.args.item.now from props _ _
    (λ node here. lonely_props copying c.args.item.now from node c.args.source.now lonely same ∙ ap (λ (p : Props). copied_props copying.rules c.args.source.now p) (sym c.fresh_props-old.ensures)) (c.set_copied_props.ensures.set tells)

pub returns-in-Ok-Some-clause-finished : goal.returns-in-Ok-Some-clause-finished
returns-in-Ok-Some-clause-finished g c = λ tells from same.
    let key = key_of c.args.item.now.path in
    let other = sym c.is_lonely.ensures ∙ c.if-is_lonely.false in
    let now = node_at (g.S.Site.view c.set_copied_props-in-Ok-Some.new.site).told Target key in
    finishes_over c.set_copied_props-in-Ok-Some.result c.args.copying.now c.args.item.now from c.args.source.now c.in-Ok-Some.old _ _ now other same c.in-Ok-Some.field-0-is (c.in-Ok-Some.ensures.props tells)
    (subst (λ (told : Told). GivesProps c.set_copied_props-in-Ok-Some.result (copied_props c.args.copying.now.rules c.args.source.now c.in-Ok-Some.old) (node_at told Target key) now) (c.props_at.ensures.frame.told tells) (c.set_copied_props-in-Ok-Some.ensures.set tells))

pub returns-in-Ok-Some-clause-frame : goal.returns-in-Ok-Some-clause-frame
returns-in-Ok-Some-clause-frame g c = record {
  here = search rules;
  elsewhere = search rules;
  log = λ tells. logs_behind part.Target _ _ _ (c.props_at.ensures.frame.log tells) (c.set_copied_props-in-Ok-Some.ensures.frame.log tells);
  opened = search rules;
  bound = search rules;
  counts = search rules;
}
