use Rattle.rc_volume.proofs.ImageLemmas.{time_goes_on}
use Rattle.rc_volume.proofs.laws.time_goes_on.Goals as goal

pub returns : goal.returns
returns c = time_goes_on
