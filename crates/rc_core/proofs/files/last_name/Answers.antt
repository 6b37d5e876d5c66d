use Rattle.std.proofs.Common.{◌≡◌, ℕ, List, subst, ◌∙◌}
use Rattle.std.specs.Prelude.{IfOk}
use Rattle.rc_core.proofs.Names.{last_is}
use Rattle.rc_core.proofs.files.last_name.Goals as goal

pub returns-in-Some : goal.returns-in-Some
returns-in-Some c =
    let last = c.in-Some.ensures.item in
    subst (λ (name : List ℕ). IfOk c.of.result (λ text. text ≡ name))
    (c.text.ensures.spelling ∙ last_is c.names.result.now c.args.path.now c.in-Some.name.now c.names.ensures.same last.0 last.1) c.of.ensures
