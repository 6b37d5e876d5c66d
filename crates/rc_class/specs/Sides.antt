-- What a decided item says of both sides: all that layers may use of a decision which see no job.
use Rattle.std.specs.Prelude.{◌≡◌, ◌≢◌, ◌⊎◌, ℕ, Bool, true, false, not, ◌&&◌, ◌||◌, List, [], ◌∷◌, ◌++◌, Option, None, Some, IfSome, IsSomeAnd}
use Rattle.std.specs.FinMap.{get}
use Rattle.rc_tree.specs.declared.attr.Kind.{Kind}
use Rattle.rc_tree.specs.declared.attr.Kind.TheVariants.{File, Dir}
use Rattle.rc_tree.specs.Codes.{is_dir}
use Rattle.rc_tree.specs.Path.{key_of, last_name, parent_of}
use Rattle.rc_tree.specs.Tree.{Node, Tree}
use Rattle.rc_class.specs.declared.class.Class.{Class}
use Rattle.rc_class.specs.declared.class.Class.TheVariants.{Lonely, Extra, Mismatched}
use Rattle.rc_class.specs.declared.decision.Act.{Act}
use Rattle.rc_class.specs.declared.decision.Act.TheVariants as act
use Rattle.rc_class.specs.declared.decision.After.TheVariants.{RemoveSource, ClearArchive}
use Rattle.rc_class.specs.declared.item.Item.{Item}
use Rattle.rc_class.specs.Class.{facts_of, is_extra, is_lonely, is_mismatched}
use Rattle.rc_class.specs.Start.{Start}

-- an entry of this kind stands there
abbrev pub HasKind : Kind → Option Node → Type 0
HasKind kind found = IsSomeAnd found (λ node. node.kind ≡ kind)

abbrev pub other_kind : Kind → Kind
other_kind File = Dir
other_kind Dir = File

-- the entry that an item is of: with its facts, and under the last name of its path
pub record IsEntryOf (item : Item) (found : Option Node) : Type 0 where
  pub node : Node
  pub stands : found ≡ Some node
  pub facts : item.facts ≡ facts_of node
  pub spelled : last_name item.path ≡ node.spelling

-- what the source and the target have at the key of an item of a class
abbrev pub Beside : Class → Item → Option Node → Option Node → Type 0
Beside Lonely item source target = IsEntryOf item source × (target ≡ None)
Beside Extra item source target = (source ≡ None) × IsEntryOf item target
Beside Mismatched item source target = IsEntryOf item source × HasKind (other_kind item.facts.kind) target
Beside _ item source target = IsEntryOf item source × HasKind item.facts.kind target

-- whether what stands at a key of a class and a kind may be decided so
abbrev pub may_act : Class → Kind → Act → Bool
may_act class kind act.Copy = not (is_dir kind) && not (is_extra class || is_mismatched class)
may_act class kind act.Make = is_dir kind && is_lonely class
may_act class kind act.Touch = is_dir kind && not (is_lonely class || is_extra class || is_mismatched class)
may_act class kind act.Fix = not (is_dir kind) && not (is_lonely class || is_extra class || is_mismatched class)
may_act class kind act.Purge = is_extra class
may_act class kind act.Extra = is_extra class
may_act class kind act.Mismatch = is_mismatched class
may_act class kind (act.Keep reason) = not (is_mismatched class)

-- an item has an act
abbrev pub Acts : Act → Option Item → Type 0
Acts does found = IsSomeAnd found (λ item. item.act ≡ does)

-- whether an act puts something into the directory of its key, or changes what stands in it
abbrev pub is_put : Act → Bool
is_put act.Copy = true
is_put act.Make = true
is_put act.Touch = true
is_put act.Fix = true
is_put act.Purge = false
is_put act.Extra = false
is_put act.Mismatch = false
is_put (act.Keep reason) = false

-- the root, or a directory of the target that stays, or one that is made
abbrev pub IsPlace : (List (List ℕ) → Option Item) → Tree → List (List ℕ) → Type 0
IsPlace decided target [] = Unit {0}
IsPlace decided target (name ∷ names) =
    (HasKind Dir (get target (name ∷ names)) × ¬ Acts act.Purge (decided (name ∷ names)))
    ⊎ Acts act.Make (decided (name ∷ names))

-- what the target has at the key of an act, before it is carried out and on the way
abbrev pub IsReady : Act → Kind → Option Node → Type 0
IsReady act.Copy kind target = IfSome target (λ node. node.kind ≡ kind)
IsReady act.Make kind target = IfSome target (λ node. node.kind ≡ kind)
IsReady act.Touch kind target = HasKind kind target
IsReady act.Fix kind target = HasKind kind target
IsReady _ kind target = Unit {0}

-- two trees, at the start of a run or on their way to the goals, on which an item can be carried out
pub record Fits (decided : List (List ℕ) → Option Item) (source target : Tree) (key : List (List ℕ)) (item : Item) : Type 0 where
  pub source_has : is_put item.act ≡ true → HasKind item.facts.kind (get source key)
  pub target_has : IsReady item.act item.facts.kind (get target key)
  -- what is copied, made or changed has its directory
  pub place : (above : List (List ℕ)) → is_put item.act ≡ true → parent_of key ≡ Some above → IsPlace decided target above
  -- all below what is removed is removed
  pub purged : (names : List (List ℕ)) → item.act ≡ act.Purge → get target (key ++ names) ≢ None → Acts act.Purge (decided (key ++ names))
  -- what is changed in the source stands there
  pub cleared : item.after ≡ ClearArchive → HasKind item.facts.kind (get source key)
  -- and all below what is removed there is removed
  pub emptied : (names : List (List ℕ)) → item.after ≡ RemoveSource → get source (key ++ names) ≢ None → IsSomeAnd (decided (key ++ names)) (λ below. below.after ≡ RemoveSource)

-- what an item that is decided of a key of a start says of both trees
pub record IsDecidedIn (start : Start) (moment : ℕ) (key : List (List ℕ)) (item : Item) : Type 0 where
  pub key_of_path : key_of item.path ≡ key
  pub beside : Beside item.class item (get start.source key) (get start.target key)
  pub allowed : may_act item.class item.facts.kind item.act ≡ true
  pub fits : Fits (start.decided moment) start.source start.target key item
