-- A text has no character where it has no byte.
use Rattle.std.proofs.Common.{ℕ, List, length, eqb, chars, ap, ◌∙◌}
use Rattle.rc_job.proofs.Characters.{empty_chars}
use Rattle.rc_job.proofs.lines.Lines.is_empty.Goals as goal

pub returns : goal.returns
returns c =
    c.is_empty.ensures ∙ empty_chars c.as_str.result.now c.as_str.utf8
    ∙ ap (λ (cs : List ℕ). eqb (length cs) 0) (ap chars c.as_str.ensures.value ∙ c.self.view_is)
