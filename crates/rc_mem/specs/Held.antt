-- The tree that a map from keys to nodes holds.
use Rattle.std.specs.Prelude.{◌≡◌, ◌≢◌, ℕ, ◌<◌, ◌≤◌, List, map, length, None, IfSome, IsSomeAnd}
use Rattle.std.specs.BTreeMap as btree
use Rattle.std.specs.BTreeMap.{BTreeMap}
use Rattle.std.specs.FinMap.{get, from_entries}
use Rattle.rc_tree.specs.Name.{name_fault}
use Rattle.rc_tree.specs.Path.{key_of, key_cmp, last_name, parent_of}
use Rattle.rc_tree.specs.Tree.{Node, Tree, IsDirectory, IsTree}
use Rattle.rc_volume.specs.Site.{Change}
use Rattle.rc_mem.specs.declared.node.TreeNode.{TreeNode}
use Rattle.rc_mem.specs.Nodes.{node_of, IsSpelledIn}

abbrev pub NodeMap : Type 0
NodeMap = BTreeMap (List (List ℕ)) TreeNode

-- what an entry of the map says of a key
abbrev pub held : List (List ℕ) × TreeNode → List (List ℕ) × Node
held e = (e.0, node_of e.1)

abbrev pub tree_held : NodeMap → Tree
tree_held nodes = from_entries (map held nodes.entries)

-- each node stands at the key of its path, together they are a tree, and each is spelled as the tree spells its key
pub record IsSound (nodes : NodeMap) : Type 0 where
  pub keyed : (key : List (List ℕ)) → IfSome (btree.get key_cmp nodes key) (λ node. key_of node.path ≡ key)
  pub tree : IsTree (tree_held nodes)
  pub spelled : (key : List (List ℕ)) → IfSome (btree.get key_cmp nodes key) (λ node. IsSpelledIn (tree_held nodes) node.path)

-- what stands at one key changed so, and nothing else
pub record AltersAt (key : List (List ℕ)) (change : Change) (old new : Tree) : Type 0 where
  pub here : change (get old key) (get new key)
  pub others : (other : List (List ℕ)) → other ≢ key → get new other ≡ get old other

-- the path is the tree's own spelling of another one, under which an entry may come: its directory stands
pub record IsPlaced (tree : Tree) (path own : List (List ℕ)) : Type 0 where
  pub key : key_of own ≡ key_of path
  pub last : last_name own ≡ last_name path
  pub within : IsSomeAnd (parent_of own) (λ parent. IsDirectory tree (key_of parent))
  pub spelled : IfSome (parent_of own) (IsSpelledIn tree)
  pub depth : length own ≤ 64
  pub named : 0 < length own → name_fault (last_name own) ≡ None
