use Rattle.rc_finish.proofs.FreeLemmas.{freed_goal}
use Rattle.rc_finish.proofs.laws.a_freed_source_has_its_goal.Goals as goal

pub returns : goal.returns
returns c = freed_goal
