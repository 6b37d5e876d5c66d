use Rattle.rc_volume.proofs.ImageLemmas.{now_is_since}
use Rattle.rc_volume.proofs.laws.now_is_since_earlier_moments.Goals as goal

pub returns : goal.returns
returns c = now_is_since
