-- What a node of a tree in memory is to contracts, and how its path is spelled.
use Rattle.std.specs.Prelude.{◌≡◌, ℕ, ◌<◌, ◌≤◌, List, Some, option_map, length, take}
use Rattle.std.specs.FinMap.{get}
use Rattle.rc_tree.specs.declared.attr.Kind.{Kind}
use Rattle.rc_tree.specs.Path.{key_of, last_name}
use Rattle.rc_tree.specs.Tree as rc
use Rattle.rc_volume.specs.Site.{fresh_file}
use Rattle.rc_mem.specs.declared.node.TreeNode.{TreeNode}

-- what stands at the node's key
abbrev pub node_of : TreeNode → rc.Node
node_of n = record { spelling = last_name n.path; kind = n.kind; bytes = n.bytes; props = n.props }

-- the node under its key
abbrev pub at_key : TreeNode → List (List ℕ) × rc.Node
at_key n = (key_of n.path, node_of n)

-- an entry as it is made
abbrev pub fresh_node : Kind → List ℕ → rc.Node
fresh_node kind name = record (fresh_file name) { kind = kind }

-- the path is spelled as the tree spells its key: at each front of the key a node stands whose spelling is the last name
-- of that front of the path
abbrev pub IsSpelledIn : rc.Tree → List (List ℕ) → Type 0
IsSpelledIn tree path = (n : ℕ) → 0 < n → n ≤ length path → option_map (λ node. node.spelling) (get tree (key_of (take n path))) ≡ Some (last_name (take n path))
