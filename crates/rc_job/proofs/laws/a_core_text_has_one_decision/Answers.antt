use Rattle.rc_job.proofs.OneJob.{one_decision, one_core}
use Rattle.rc_job.proofs.laws.a_core_text_has_one_decision.Goals as goal

pub returns-clause-fixed : goal.returns-clause-fixed
returns-clause-fixed c = one_decision

pub returns-clause-no_more : goal.returns-clause-no_more
returns-clause-no_more c = one_core
