use Rattle.rc_jobfiles.proofs.Saved.{saved_is_read}
use Rattle.rc_jobfiles.proofs.laws.saved_jobs_are_read.Goals as goal

pub returns : goal.returns
returns c = saved_is_read
