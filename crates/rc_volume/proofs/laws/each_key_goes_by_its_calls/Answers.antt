use Rattle.rc_volume.proofs.ImageLemmas.{came_by}
use Rattle.rc_volume.proofs.laws.each_key_goes_by_its_calls.Goals as goal

pub returns : goal.returns
returns c = came_by
