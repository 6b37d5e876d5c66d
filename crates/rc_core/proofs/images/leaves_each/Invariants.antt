use Rattle.rc_tree.specs.Path.{key_of}
use Rattle.rc_core.specs.Images.{LeavesAt}
use Rattle.rc_core.specs.declared.node.Node.{Node}
use Rattle.rc_core.proofs.Numbers.{Below}
use Rattle.rc_core.proofs.images.leaves_each.Given as goal

abbrev pub invariant-loop-n : goal.invariant-loop-n
invariant-loop-n l = Below (λ n (node : Node). LeavesAt l.files l.target l.image (key_of node.path)) l.nodes l.n
