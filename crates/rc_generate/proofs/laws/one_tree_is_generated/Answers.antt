use Rattle.rc_generate.proofs.Alone.{one-tree}
use Rattle.rc_generate.proofs.laws.one_tree_is_generated.Goals as goal

pub returns : goal.returns
returns c = one-tree
