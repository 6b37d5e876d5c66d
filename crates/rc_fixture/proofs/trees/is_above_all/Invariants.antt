use Rattle.std.proofs.Common.{◌≡◌, ℕ, List, map}
use Rattle.std.specs.List.{All}
use Rattle.std.specs.FinMap.{entries}
use Rattle.std.specs.declared.cmp.Ordering.TheVariants.{Less}
use Rattle.rc_tree.specs.Path.{key_of, key_cmp}
use Rattle.rc_tree.specs.Tree.{Node}
use Rattle.rc_mem.specs.Nodes.{at_key}
use Rattle.rc_fixture.proofs.trees.is_above_all.Given as goal

abbrev IsBelow : List (List ℕ) → List (List ℕ) × Node → Type 0
IsBelow path entry = key_cmp entry.0 (key_of path) ≡ Less

-- what holds of the nodes that are left holds of all entries
abbrev pub invariant-loop-node : goal.invariant-loop-node
invariant-loop-node l = All (IsBelow l.path) (map at_key l.node-iterator) → All (IsBelow l.path) (entries l.tree)
