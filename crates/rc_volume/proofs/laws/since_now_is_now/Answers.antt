use Rattle.rc_volume.proofs.ImageLemmas.{since_now}
use Rattle.rc_volume.proofs.laws.since_now_is_now.Goals as goal

pub returns : goal.returns
returns c = since_now
