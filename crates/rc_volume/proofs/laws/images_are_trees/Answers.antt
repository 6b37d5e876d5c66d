use Rattle.rc_volume.proofs.ImageLemmas.{images_are_trees}
use Rattle.rc_volume.proofs.laws.images_are_trees.Goals as goal

pub returns : goal.returns
returns c = images_are_trees
