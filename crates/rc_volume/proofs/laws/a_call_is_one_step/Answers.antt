use Rattle.rc_volume.proofs.ImageLemmas.{one_step}
use Rattle.rc_volume.proofs.laws.a_call_is_one_step.Goals as goal

pub returns : goal.returns
returns c = one_step
