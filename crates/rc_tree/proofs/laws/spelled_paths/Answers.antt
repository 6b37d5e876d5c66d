use Rattle.rc_tree.proofs.Fronts.{spelled-key, spelled-last}
use Rattle.rc_tree.proofs.laws.spelled_paths.Goals as goal

pub returns-clause-key : goal.returns-clause-key
returns-clause-key c = spelled-key

pub returns-clause-last : goal.returns-clause-last
returns-clause-last c = spelled-last
