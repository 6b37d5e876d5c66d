use Rattle.rc_jobfiles.proofs.Whole.{resolved_is_whole}
use Rattle.rc_jobfiles.proofs.laws.resolved_jobs_are_whole.Goals as goal

pub returns-clause-whole : goal.returns-clause-whole
returns-clause-whole c texts store = (resolved_is_whole texts store).0

pub returns-clause-rooted : goal.returns-clause-rooted
returns-clause-rooted c texts store = (resolved_is_whole texts store).1
