use Rattle.rc_core.proofs.ImagesFollow.{image_follows}
use Rattle.rc_core.proofs.laws.images_follow.Goals as goal

pub returns : goal.returns
returns c = λ state image units finished sound may. image_follows state sound image units finished may
