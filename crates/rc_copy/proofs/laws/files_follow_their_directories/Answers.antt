use Rattle.rc_copy.proofs.PlaceLemmas.{copyable_behind}
use Rattle.rc_copy.proofs.laws.files_follow_their_directories.Goals as goal

pub returns : goal.returns
returns c = copyable_behind
