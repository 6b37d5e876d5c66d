use Rattle.std.proofs.Common.{◌≡◌, ℕ, List, map, sym, subst, ◌∙◌}
use Rattle.std.specs.List.{All}
use Rattle.std.specs.declared.cmp.Ordering.TheVariants.{Less}
use Rattle.rc_tree.specs.Path.{key_of, key_cmp}
use Rattle.rc_tree.specs.Tree.{Node}
use Rattle.rc_mem.specs.declared.node.TreeNode.{TreeNode}
use Rattle.rc_mem.specs.Nodes.{at_key}
use Rattle.rc_mem.proofs.Order.{less-from_test}
use Rattle.rc_mem.proofs.Maps.{all-first}
use Rattle.rc_fixture.proofs.trees.is_above_all.Goals as goal

pub loop-node-preserved : goal.loop-node-preserved
loop-node-preserved c = λ rest.
    let path = c.args.path.now in
    let node = c.in-Some.node.now in
    let below : key_cmp (key_of node.path) (key_of path) ≡ Less = sym c.cmp.ensures ∙ less-from_test c.cmp.result (sym c.is_lt.ensures ∙ c.if-not-is_lt.false) in
    c.loop-node.invariant
    (subst (λ (nodes : List TreeNode). All (λ (entry : List (List ℕ) × Node). key_cmp entry.0 (key_of path) ≡ Less) (map at_key nodes)) (sym c.in-Some.ensures.steps)
    (all-first (λ (entry : List (List ℕ) × Node). key_cmp entry.0 (key_of path) ≡ Less) (at_key node) (map at_key c.next.new.self) below rest))
