use Rattle.rc_volume.proofs.ImageLemmas.{stands_by}
use Rattle.rc_volume.proofs.laws.a_key_without_calls_stands.Goals as goal

pub returns : goal.returns
returns c = stands_by
