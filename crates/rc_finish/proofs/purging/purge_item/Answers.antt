use Rattle.rc_finish.proofs.WaitLemmas.{waits_not}
use Rattle.rc_finish.proofs.purging.purge_item.Goals as goal

pub returns-else-eq-clause-waits : goal.returns-else-eq-clause-waits
returns-else-eq-clause-waits g c = waits_not _ _ _
