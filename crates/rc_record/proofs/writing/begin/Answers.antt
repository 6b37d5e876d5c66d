use Rattle.std.proofs.Common.{◌∷◌, subst, ◌∙◌}
use Rattle.rc_record.specs.Writing.{IsKept}
use Rattle.rc_record.proofs.writing.begin.Goals as goal

pub returns-in-Ok-write_closed-clause-begun : goal.returns-in-Ok-write_closed-clause-begun
returns-in-Ok-write_closed-clause-begun g c = λ tells. record {
  allowed = c.requires.writable.allowed;
  typed = c.in-Ok.ensures.typed;
  kept = subst (λ body. IsKept (0 ∷ body) (g.S.Site.view c.write_closed.new.site)) (c.deref.ensures.value ∙ c.in-Ok.ensures.body) (c.in-Ok-write_closed.ensures.written tells);
}
