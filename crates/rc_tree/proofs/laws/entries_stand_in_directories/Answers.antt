use Rattle.rc_tree.proofs.Fronts.{directory_above}
use Rattle.rc_tree.proofs.laws.entries_stand_in_directories.Goals as goal

pub returns : goal.returns
returns c = directory_above
