use Rattle.rc_volume.proofs.ImageLemmas.{only_notes}
use Rattle.rc_volume.proofs.laws.a_sync_of_the_record_leaves_what_reads.Goals as goal

pub returns : goal.returns
returns c = only_notes
