use Rattle.std.proofs.Common.{◌≡◌, ◌++◌, ℕ, List, length, map}
use Rattle.std.specs.FinMap.{entries}
use Rattle.rc_tree.specs.Tree.{Node}
use Rattle.rc_mem.specs.Nodes.{at_key}
use Rattle.rc_site_rows.proofs.sites.sizes.Given as goal

-- what was written, and what of the nodes that are left, is what of all entries
abbrev pub invariant-loop-node : goal.invariant-loop-node
invariant-loop-node l =
    l.sizes.items ++ map (λ (entry : List (List ℕ) × Node). length entry.1.bytes) (map at_key l.node-iterator) ≡ map (λ entry. length entry.1.bytes) (entries l.tree)
