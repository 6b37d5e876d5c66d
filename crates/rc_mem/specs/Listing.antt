-- The entry of a directory that a listing shows next.
use Rattle.std.specs.Prelude.{◌≡◌, ℕ, ◌+◌, ◌<◌, List, Option, length, take}
use Rattle.rc_tree.specs.Path.{key_of}
use Rattle.rc_tree.specs.Tree.{Tree}
use Rattle.rc_volume.specs.Site.{entry_of, IsNext}
use Rattle.rc_mem.specs.declared.node.TreeNode.{TreeNode}
use Rattle.rc_mem.specs.Nodes.{node_of}

-- the path has one name more than the directory's, and begins with its names
pub record IsChildOf (dir path : List (List ℕ)) : Type 0 where
  pub deeper : length path ≡ length dir + 1
  pub begins : take (length dir) (key_of path) ≡ key_of dir

-- a listing of the directory shows the node next
pub record ShowsNext (tree : Tree) (dir : List (List ℕ)) (after : Option (List ℕ)) (node : TreeNode) : Type 0 where
  pub shown : IsNext tree dir after (entry_of (node_of node))
  pub named : 0 < length node.path
  pub depth : length dir < 64
