-- Lists of nodes with their paths, as trees.
use Rattle.std.specs.Prelude.{ℕ, Bool, true, List, [], ◌∷◌, Option, map}
use Rattle.std.specs.FinMap.{find, from_entries, is_sorted}
use Rattle.std.specs.Ordering.{is_lt}
use Rattle.rc_tree.specs.Path.{key_of, key_cmp, last_name}
use Rattle.rc_tree.specs.Tree as rc
use Rattle.rc_core.specs.declared.node.Node.{Node}

-- what stands at the node's key
abbrev pub node_of : Node → rc.Node
node_of n = record { spelling = last_name n.path; kind = n.kind; bytes = n.bytes; props = n.props }

-- the node under its key
abbrev pub keyed : Node → List (List ℕ) × rc.Node
keyed n = (key_of n.path, node_of n)

-- what stands at a key
abbrev pub node_at : List Node → List (List ℕ) → Option rc.Node
node_at nodes key = find key_cmp key (map keyed nodes)

-- the keys rise strictly
abbrev pub are_rising : List Node → Bool
are_rising nodes = is_sorted key_cmp (map keyed nodes)

-- a node lies below the first of these
abbrev pub lies_below : Node → List Node → Bool
lies_below node [] = true
lies_below node (next ∷ later) = is_lt (key_cmp (key_of node.path) (key_of next.path))

abbrev pub tree_of : List Node → rc.Tree
tree_of nodes = from_entries (map keyed nodes)
