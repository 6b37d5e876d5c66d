use Rattle.std.proofs.Common.{◌≡◌, Bool, ap, is_eq, sym, subst, ◌∙◌}
use Rattle.std.specs.Prelude.{IsTrue, ◌↔◌}
use Rattle.rc_tree.specs.Path.{key_of}
use Rattle.rc_core.proofs.Same.{keys_decide}
use Rattle.rc_core.proofs.images.is_at.Goals as goal

pub returns : goal.returns
returns c =
    subst (λ (b : Bool). IsTrue b ↔ (key_of c.args.row.now.file.item.path ≡ key_of c.args.path.now)) (sym (c.is_eq.ensures ∙ ap is_eq c.cmp.ensures))
    (keys_decide (key_of c.args.row.now.file.item.path) (key_of c.args.path.now))
