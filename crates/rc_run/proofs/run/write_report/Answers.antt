use Rattle.rc_run.proofs.RunLemmas.{AppendsFront-all}
use Rattle.rc_run.proofs.run.write_report.Goals as goal

pub returns-in-Ok-clause-front : goal.returns-in-Ok-clause-front
returns-in-Ok-clause-front g c = λ tells. AppendsFront-all _ _ _ (c.in-Ok.ensures.written tells)
