use Rattle.std.proofs.Common.{length}
use Rattle.rc_tree.proofs.path.+cmp_names.Given as goal

abbrev pub decreases-cmp_names : goal.decreases-cmp_names
decreases-cmp_names l = length l.a.now
