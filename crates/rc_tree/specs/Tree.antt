-- A tree as a finite map from keys to nodes.
use Rattle.std.specs.Prelude.{◌≡◌, ◌≢◌, ℕ, ◌≤◌, List, [], ◌++◌, ◌∷◌, Option, None, option_map, length, IfSome}
use Rattle.std.specs.FinMap.{FinMap, get}
use Rattle.rc_tree.specs.declared.attr.Kind.{Kind}
use Rattle.rc_tree.specs.declared.attr.Kind.TheVariants.{Dir}
use Rattle.rc_tree.specs.declared.props.Props.{Props}
use Rattle.rc_tree.specs.Name.{folded, name_fault}
use Rattle.rc_tree.specs.Path.{key_cmp}

-- what stands at a key
pub record Node : Type 0 where
  pub spelling : List ℕ
  pub kind : Kind
  pub bytes : List ℕ
  pub props : Props

abbrev pub Tree : Type 0
Tree = FinMap key_cmp Node

-- the kind of what stands there
abbrev pub kind_at : Tree → List (List ℕ) → Option Kind
kind_at tree key = option_map (λ node. node.kind) (get tree key)

-- the root, or a key at which a directory stands
abbrev pub IsDirectory : Tree → List (List ℕ) → Type 0
IsDirectory tree [] = Unit {0}
IsDirectory tree (n ∷ ns) = IfSome (get tree (n ∷ ns)) (λ node. node.kind ≡ Dir) × (get tree (n ∷ ns) ≢ None)

-- a node may stand under this last name of its key, in this directory
pub record FitsAt (tree : Tree) (parent : List (List ℕ)) (name : List ℕ) (node : Node) : Type 0 where
  pub spelled : folded node.spelling ≡ name
  pub named : name_fault node.spelling ≡ None
  pub within : IsDirectory tree parent
  pub depth : length (parent ++ name ∷ []) ≤ 64
  pub no_bytes : node.kind ≡ Dir → node.bytes ≡ []

-- each node has a key with at least one name and fits there
abbrev pub IsTree : Tree → Type 0
IsTree tree = (get tree [] ≡ None) × ((parent : List (List ℕ)) (name : List ℕ) → IfSome (get tree (parent ++ name ∷ [])) (FitsAt tree parent name))
