use Rattle.rc_volume.proofs.ImageLemmas.{notes_stand}
use Rattle.rc_volume.proofs.laws.the_record_stands.Goals as goal

pub returns : goal.returns
returns c = notes_stand
