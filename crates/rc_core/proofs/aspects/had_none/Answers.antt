use Rattle.std.proofs.Common.{◌∙◌, ap, inl, inr, not, subst, sym, true≢false}
use Rattle.std.specs.Prelude.{Contains, IsTrue, None, ◌↔◌, is_some}
use Rattle.rc_core.proofs.Numbers.{contained_cases, contained_later}
use Rattle.rc_core.proofs.aspects.had_none.Goals as goal

pub returns-else-is_none : goal.returns-else-is_none
returns-else-is_none c =
    let row = c.args.row.now in
    let later = subst (λ had. IsTrue c.contains_none.result ↔ Contains had None) c.had.ensures c.contains_none.ensures in (
      (λ e. contained_later row.stands row.touched.had None (later.0 e)),
      (λ is. elim (contained_cases row.stands row.touched.had None is) [
        | inl here ↦ absurd (true≢false (sym (sym (ap is_some here) ∙ c.is_none.ensures ∙ ap not c.if-is_none.false)))
        | inr behind ↦ later.1 behind
      ]),
    )
