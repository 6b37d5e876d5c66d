use Rattle.std.proofs.Common.{ap, sym, ◌∙◌, subst, map}
use Rattle.std.specs.List.{All}
use Rattle.rc_tree.specs.Tree as rc
use Rattle.std.specs.FinMap.{entries}
use Rattle.rc_mem.specs.declared.node.TreeNode.{TreeNode}
use Rattle.rc_mem.specs.Nodes.{at_key, IsSpelledIn}
use Rattle.rc_mem.specs.Held.{tree_held}
use Rattle.rc_mem.proofs.Sound.{nodes-are, nodes-spelled}
use Rattle.rc_mem.proofs.tree.Tree.nodes.Goals as goal

pub returns-clause-nodes : goal.returns-clause-nodes
returns-clause-nodes c =
    ap (map at_key) (c.new.ensures ∙ c.values.ensures.rest) ∙ nodes-are c.self.inside.nodes c.self.invariant c.values.ensures.ordered ∙ ap entries c.self.view_is

pub returns-clause-spelled : goal.returns-clause-spelled
returns-clause-spelled c =
    subst (λ (tree : rc.Tree). All (λ (node : TreeNode). IsSpelledIn tree node.path) c.new.result) c.self.view_is
    (subst (All (λ (node : TreeNode). IsSpelledIn (tree_held c.self.inside.nodes) node.path)) (sym (c.new.ensures ∙ c.values.ensures.rest)) (nodes-spelled c.self.inside.nodes c.self.invariant c.values.ensures.ordered))
