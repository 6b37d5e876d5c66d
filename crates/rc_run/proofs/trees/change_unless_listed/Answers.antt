use Rattle.std.proofs.Common.{arith}
use Rattle.rc_run.proofs.WaitLemmas.{unwaited_free}
use Rattle.rc_run.proofs.trees.change_unless_listed.Goals as goal

-- under `/L` nothing is waited for
pub returns-then-job-clause-waits : goal.returns-then-job-clause-waits
returns-then-job-clause-waits g c = unwaited_free _ _ _ _ (λ part. omega arith)
