use Rattle.std.proofs.Common.{◌≡◌, sym, subst}
use Rattle.std.specs.Prelude.{IsTrue, ◌↔◌, Bool}
use Rattle.rc_core.proofs.Same.{texts_decide}
use Rattle.rc_core.proofs.left.is_same_text.Goals as goal

pub returns : goal.returns
returns c = subst (λ (b : Bool). IsTrue b ↔ (c.args.a.now ≡ c.args.b.now)) (sym c.eq.ensures) (texts_decide c.args.a.now c.args.b.now)
