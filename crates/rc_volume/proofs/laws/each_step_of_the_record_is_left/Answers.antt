use Rattle.rc_volume.proofs.ImageLemmas.{each_notes_step}
use Rattle.rc_volume.proofs.laws.each_step_of_the_record_is_left.Goals as goal

pub returns : goal.returns
returns c = each_notes_step
