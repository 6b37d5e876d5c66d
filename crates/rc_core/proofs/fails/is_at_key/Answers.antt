use Rattle.std.proofs.Common.{◌≡◌, Bool, ap, is_eq, sym, subst, ◌∙◌}
use Rattle.std.specs.Prelude.{IsTrue, Option, ◌↔◌}
use Rattle.rc_tree.specs.Path.{key_of}
use Rattle.rc_core.specs.Events.{IsAtKey}
use Rattle.rc_core.specs.declared.node.Node.{Node}
use Rattle.rc_core.proofs.Same.{keys_decide}
use Rattle.rc_core.proofs.fails.is_at_key.Goals as goal

pub returns-in-Some : goal.returns-in-Some
returns-in-Some c =
    subst (λ (left : Option Node). IsTrue c.is_eq.result ↔ IsAtKey c.args.row.now left) (sym c.in-Some.is)
    (subst (λ (b : Bool). IsTrue b ↔ (key_of c.in-Some.node.path ≡ key_of c.args.row.now.file.item.path)) (sym (c.is_eq.ensures ∙ ap is_eq c.cmp.ensures))
    (keys_decide (key_of c.in-Some.node.path) (key_of c.args.row.now.file.item.path)))
