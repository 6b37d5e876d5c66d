use Rattle.rc_volume.proofs.ImageLemmas.{past_stands}
use Rattle.rc_volume.proofs.laws.the_past_stands.Goals as goal

pub returns : goal.returns
returns c = past_stands
