-- The files that a reader in memory shares.
use Rattle.std.specs.Prelude.{◌≡◌, ℕ, List, [], All, IsSome, option_map, unwrap_or}
use Rattle.std.specs.BTreeMap as btree
use Rattle.std.specs.BTreeMap.{BTreeMap}
use Rattle.std.specs.FinMap.{get}
use Rattle.rc_tree.specs.Path.{key_of, key_cmp}
use Rattle.rc_tree.specs.Tree.{Tree}
use Rattle.rc_volume.specs.declared.want.Want.{Want}

abbrev pub FileMap : Type 0
FileMap = BTreeMap (List (List ℕ)) (List ℕ)

-- the bytes of the file at a key: none where there is no file
abbrev pub shared_at : FileMap → List (List ℕ) → List ℕ
shared_at files key = unwrap_or (btree.get key_cmp files key) []

-- the files have the tree's bytes, and all that are wanted are there
pub record Shares (tree : Tree) (wants : List Want) (files : FileMap) : Type 0 where
  pub same : (key : List (List ℕ)) → IsSome (btree.get key_cmp files key) → btree.get key_cmp files key ≡ option_map (λ node. node.bytes) (get tree key)
  pub wanted : All (λ want. IsSome (btree.get key_cmp files (key_of want.path))) wants
