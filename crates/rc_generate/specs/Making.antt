-- How the trees of a generated site grow.
use Rattle.std.specs.Prelude.{◌≡◌, ◌≢◌, ℕ, ◌<◌, ◌+◌, List, Option, None, Some, option_map, IfSome}
use Rattle.std.specs.FinMap.{get, insert}
use Rattle.rc_tree.specs.declared.attr.Kind.TheVariants.{File}
use Rattle.rc_tree.specs.Path.{key_of}
use Rattle.rc_tree.specs.Tree.{IsDirectory, Node, Tree}
use Rattle.rc_volume.specs.declared.site.Side.{Side}
use Rattle.rc_mem.specs.declared.node.TreeNode.{TreeNode}
use Rattle.rc_mem.specs.Nodes.{node_of}
use Rattle.rc_generate.specs.Generated.{directory, dir_key, draw_at, draw_of, file_key, has}

-- this is what stands at a path, if anything does, and it is a file
pub record IsFileOf (path : List (List ℕ)) (node : Option Node) (file : Option TreeNode) : Type 0 where
  pub same : option_map node_of file ≡ node
  pub there : IfSome file (λ file. (file.path ≡ path) × (file.kind ≡ File))

-- the tree with one more file, if there is one
abbrev pub with_file : Option TreeNode → Tree → Tree
with_file None tree = tree
with_file (Some file) tree = insert tree (key_of file.path) (node_of file)

-- nothing stands at a key, and a directory above it
pub record IsFree (dir : List (List ℕ)) (key : List (List ℕ)) (tree : Tree) : Type 0 where
  pub absent : get tree key ≡ None
  pub within : IsDirectory tree dir

-- this came to a key, and nothing else changed
pub record ComesTo (key : List (List ℕ)) (node : Option Node) (old new : Tree) : Type 0 where
  pub here : get new key ≡ node
  pub others : (other : List (List ℕ)) → other ≢ key → get new other ≡ get old other

-- the first files of directory i came, by the draws behind a state
pub record HasFiles (state i count : ℕ) (side : Side) (old new : Tree) : Type 0 where
  pub files : (j : ℕ) → j < count → get new (file_key i j) ≡ has side i j (draw_at state (j + 1))
  pub others : (key : List (List ℕ)) → ((j : ℕ) → j < count → key ≢ file_key i j) → get new key ≡ get old key

-- directory i came with all its files, by the draws behind a state
pub record HasDirectory (state i : ℕ) (side : Side) (old new : Tree) : Type 0 where
  pub dir : get new (dir_key i) ≡ Some (directory i)
  pub files : (j : ℕ) → j < 100 → get new (file_key i j) ≡ has side i j (draw_at state (j + 1))
  pub others : (key : List (List ℕ)) → key ≢ dir_key i → ((j : ℕ) → j < 100 → key ≢ file_key i j) → get new key ≡ get old key

-- nothing of directory i stands
pub record IsBare (i : ℕ) (tree : Tree) : Type 0 where
  pub dir : get tree (dir_key i) ≡ None
  pub files : (j : ℕ) → j < 100 → get tree (file_key i j) ≡ None

-- the first directories of one side of a generated site, and nothing else
pub record HasDirectories (n count : ℕ) (side : Side) (tree : Tree) : Type 0 where
  pub dirs : (i : ℕ) → i < count → get tree (dir_key i) ≡ Some (directory i)
  pub files : (i j : ℕ) → i < count → j < 100 → get tree (file_key i j) ≡ has side i j (draw_of n i j)
  pub others : (key : List (List ℕ)) → ((i : ℕ) → i < count → key ≢ dir_key i) → ((i j : ℕ) → i < count → j < 100 → key ≢ file_key i j) → get tree key ≡ None

-- directory i stands, and none of its files
pub record HasRoom (i : ℕ) (tree : Tree) : Type 0 where
  pub dir : IsDirectory tree (dir_key i)
  pub files : (j : ℕ) → j < 100 → get tree (file_key i j) ≡ None
