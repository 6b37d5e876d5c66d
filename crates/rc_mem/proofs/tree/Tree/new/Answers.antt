use Rattle.rc_mem.proofs.Sound.{IsSound-empty}
use Rattle.rc_mem.proofs.tree.Tree.new.Goals as goal

pub invariant_of-result : goal.invariant_of-result
invariant_of-result c = IsSound-empty c.new.result c.new.ensures.empty
