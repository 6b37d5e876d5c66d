use Rattle.std.proofs.Common.{◌≡◌, length}
use Rattle.rc_tree.specs.Path.{key_of}
use Rattle.rc_core.specs.Nodes.{node_at}
use Rattle.rc_core.proofs.opening.find_node.Given as goal

abbrev pub invariant-loop-rest : goal.invariant-loop-rest
invariant-loop-rest l = node_at l.rest (key_of l.path) ≡ node_at l.nodes (key_of l.path)

abbrev pub decreases-loop-rest : goal.decreases-loop-rest
decreases-loop-rest l = length l.rest
