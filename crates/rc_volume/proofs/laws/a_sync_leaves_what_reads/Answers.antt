use Rattle.rc_volume.proofs.ImageLemmas.{only_tree}
use Rattle.rc_volume.proofs.laws.a_sync_leaves_what_reads.Goals as goal

pub returns : goal.returns
returns c = only_tree
