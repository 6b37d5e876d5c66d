-- How a tree grows key by key from what is to stand at them.
use Rattle.std.specs.Prelude.{ℕ, Bool, false, List, [], ◌∷◌, map, Option, Some, None, if◌then◌else◌, unwrap_or}
use Rattle.std.specs.BTreeMap as btree
use Rattle.std.specs.BTreeMap.{BTreeMap}
use Rattle.std.specs.FinMap.{get, insert, from_entries}
use Rattle.rc_tree.specs.Path.{key_cmp, parent_of}
use Rattle.rc_tree.specs.Tree.{Node, Tree}
use Rattle.rc_mem.specs.Directories.{dir_above}
use Rattle.rc_stop.specs.Kept.{Keys}

-- a node comes to its key, if the directory above is there
abbrev pub grown_by : List (List ℕ) × Option Node → Tree → Tree
grown_by (key, None) image = image
grown_by (key, Some node) image = if dir_above image (parent_of key) then insert image key node else image

-- one after another
abbrev pub grown : List (List (List ℕ) × Option Node) → Tree → Tree
grown [] image = image
grown (entry ∷ entries) image = grown entries (grown_by entry image)

-- keys, and whether each is to be as it was synced last
abbrev pub Drawn : Type 0
Drawn = BTreeMap (List (List ℕ)) Bool

-- a key is to be as it was synced last
abbrev pub odd_in : Drawn → List (List ℕ) → Bool
odd_in drawn key = unwrap_or (btree.get key_cmp drawn key) false

-- what stands at a key in one of two trees
abbrev pub picked_from : Tree → Tree → List (List ℕ) × Bool → List (List ℕ) × Option Node
picked_from kept reads (key, odd) = (key, get (if odd then kept else reads) key)

-- the finite map of the keys of an ordered map
abbrev pub keys_held : BTreeMap (List (List ℕ)) (Unit {0}) → Keys
keys_held keys = from_entries (map (λ (e : List (List ℕ) × Unit {0}). (e.0, tt)) keys.entries)
