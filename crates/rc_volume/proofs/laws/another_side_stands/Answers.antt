use Rattle.rc_volume.proofs.ImageLemmas.{tree_stands}
use Rattle.rc_volume.proofs.laws.another_side_stands.Goals as goal

pub returns : goal.returns
returns c = tree_stands
