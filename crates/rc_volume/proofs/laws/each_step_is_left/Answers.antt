use Rattle.rc_volume.proofs.ImageLemmas.{each_step}
use Rattle.rc_volume.proofs.laws.each_step_is_left.Goals as goal

pub returns : goal.returns
returns c = each_step
