use Rattle.std.proofs.Common.{sym, ◌∙◌, append-nil}
use Rattle.rc_finish.proofs.directories.attempt.Goals as goal

pub returns-in-Ok-Some-clause-calls : goal.returns-in-Ok-Some-clause-calls
returns-in-Ok-Some-clause-calls g c = λ tells. (0, c.stat.ensures.frame.log tells ∙ sym (append-nil _))
