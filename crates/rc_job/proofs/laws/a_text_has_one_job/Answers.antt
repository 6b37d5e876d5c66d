use Rattle.rc_job.proofs.OneJob.{one_job}
use Rattle.rc_job.proofs.laws.a_text_has_one_job.Goals as goal

pub returns : goal.returns
returns c = one_job
