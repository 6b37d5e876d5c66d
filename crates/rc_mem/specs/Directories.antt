-- Whether a directory stands at a key, and above it.
use Rattle.std.specs.Prelude.{ℕ, Bool, true, false, List, [], ◌∷◌, Option, Some, None}
use Rattle.std.specs.FinMap.{get}
use Rattle.rc_tree.specs.declared.attr.Kind.{Kind}
use Rattle.rc_tree.specs.declared.attr.Kind.TheVariants.{Dir, File}
use Rattle.rc_tree.specs.Tree.{Node, Tree}

-- a directory is found
abbrev pub is_dir_kind : Kind → Bool
is_dir_kind Dir = true
is_dir_kind File = false

abbrev pub found_dir : Option Node → Bool
found_dir None = false
found_dir (Some node) = is_dir_kind node.kind

-- the root, or a key at which a directory stands
abbrev pub is_dir : Tree → List (List ℕ) → Bool
is_dir tree [] = true
is_dir tree (name ∷ names) = found_dir (get tree (name ∷ names))

-- the directory above is there
abbrev pub dir_above : Tree → Option (List (List ℕ)) → Bool
dir_above tree None = false
dir_above tree (Some dir) = is_dir tree dir
