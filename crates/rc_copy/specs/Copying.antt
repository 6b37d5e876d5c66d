-- What the steps of copying do to the target, when they are done and when they end in a fault.
use Rattle.std.specs.Prelude.{◌≡◌, ◌⊎◌, ℕ, ◌≤◌, ◌^◌, Bool, true, false, max, All, List, ◌++◌, Option, Some, None, IsSomeAnd, option_map, length, Result, Ok, Err, if◌then◌else◌}
use Rattle.std.specs.FinMap.{get}
use Rattle.std.specs.List.{list_any}
use Rattle.rc_tree.specs.declared.attr.Kind.TheVariants.{File}
use Rattle.rc_tree.specs.declared.props.Props.{Props}
use Rattle.rc_tree.specs.Path.{key_of, last_name, parent_of}
use Rattle.rc_tree.specs.Tree.{IsDirectory, Node, Tree}
use Rattle.rc_class.specs.declared.item.Item.{Item}
use Rattle.rc_class.specs.Class.{is_lonely}
use Rattle.rc_class.specs.Goal.{archive_alone, copied_props, fresh_props, picked, target_goal}
use Rattle.rc_class.specs.Items.{item_at}
use Rattle.rc_class.specs.Sides.{Beside, may_act}
use Rattle.rc_class.specs.Units.{is_copy}
use Rattle.rc_volume.specs.declared.site.Part.TheVariants as part
use Rattle.rc_volume.specs.declared.site.Side.{Side}
use Rattle.rc_volume.specs.declared.site.Side.TheVariants.{Target}
use Rattle.rc_volume.specs.declared.site.SiteErr.{SiteErr}
use Rattle.rc_volume.specs.declared.site.SiteErr.TheVariants as site_err
use Rattle.rc_volume.specs.declared.want.Want.{Want}
use Rattle.rc_volume.specs.Faults.{Cause, Counts, free, on, part_for}
use Rattle.rc_volume.specs.Frames.{ChangesAt}
use Rattle.rc_volume.specs.Images.{IsOnlyTree}
use Rattle.rc_volume.specs.Log.{LogsOn}
use Rattle.rc_volume.specs.Site.{Change, Becomes, Comes, Maybe, Told, Turns, Seen, ReadsFrom, fresh_file, node_at, with_props}
use Rattle.rc_finish.specs.Passes.{Pass, made, purged}
use Rattle.rc_copy.specs.declared.err.CopyErr.{CopyErr}
use Rattle.rc_copy.specs.declared.err.CopyErr.TheVariants as copy_err
use Rattle.rc_copy.specs.declared.copying.Copying.{Copying}

-- Goals

-- what the target has in the end at the key of an item, where the two sides had this there
abbrev pub goal_under : Copying → Option Item → Option Node → Option Node → Option Node
goal_under copying item source target = target_goal copying.rules copying.with_bytes copying.moment item source target

-- a file that is to be copied gets its goal, and all else stays
abbrev pub copied : Copying → Pass
copied copying item source target = if is_copy item.act then goal_under copying (Some item) source target else target

-- directories are made, and what is to be purged is gone
abbrev pub readied : Pass
readied item source target = purged item source (made item source target)

-- the properties of a copy of one file over another, or of a fresh one
abbrev pub finished_props : Copying → Item → Node → Node → Props
finished_props copying item from node =
    copied_props copying.rules from.props (if is_lonely item.class then fresh_props archive_alone copying.moment else node.props)

-- Conditions

-- what is copied has at most 2^40 bytes
abbrev pub AreSmallCopies : List Item → Type 0
AreSmallCopies items = All (λ item. is_copy item.act ≡ true → item.facts.size ≤ 2 ^ 40) items

-- the path's parent is the root or a directory
abbrev pub HasPlace : Tree → List (List ℕ) → Type 0
HasPlace tree path = IsSomeAnd (parent_of path) (λ parent. IsDirectory tree (key_of parent))

-- the two sides have what the item of a copy says, and the file has its directory
pub record IsCopyable (start : Told) (item : Item) : Type 0 where
  pub beside : Beside item.class item (get start.source (key_of item.path)) (get start.target (key_of item.path))
  pub allowed : may_act item.class item.facts.kind item.act ≡ true
  pub place : HasPlace start.target item.path

-- where it says that a file is copied
abbrev pub IfCopyable : Told → Item → Type 0
IfCopyable start item = is_copy item.act ≡ true → IsCopyable start item

abbrev pub AreCopyable : Told → List Item → Type 0
AreCopyable start items = All (IfCopyable start) items

-- each item says what both sides have at its key, and may be decided so
abbrev pub AreDecided : List Item → Told → Type 0
AreDecided items told =
    (key : List (List ℕ)) (item : Item) → item_at items key ≡ Some item →
    Beside item.class item (get told.source key) (get told.target key) × (may_act item.class item.facts.kind item.act ≡ true)

-- a reader tells the bytes of the source, in the ranges for which it was made
abbrev pub ReadsSource : Bool → List Want → (List (List ℕ) → List ℕ) → Seen → Type 0
ReadsSource tells wants bytes seen = (tells ≡ true) × ReadsFrom seen.told.source wants bytes

-- On the way

-- the file on which a copy goes on: the one that stands, or a fresh one as a site makes it
abbrev pub begun_file : List (List ℕ) → Option Node → Node
begun_file path (Some node) = node
begun_file path None = fresh_file (last_name path)

-- other bytes, no more than it had or than this size, and all else as it was
pub record IsRefilled (size : ℕ) (old new : Node) : Type 0 where
  pub rest : new ≡ record old { bytes = new.bytes }
  pub no_longer : length new.bytes ≤ max (length old.bytes) size

-- a file that is being copied: with its own bytes where bytes do not go along, and with its own properties or with those
-- of the goal
pub record IsHalfCopied (copying : Copying) (item : Item) (source old : Option Node) (node : Node) : Type 0 where
  pub is_file : node.kind ≡ File
  pub spelling : node.spelling ≡ (begun_file item.path old).spelling
  pub bytes : copying.with_bytes ≡ false → node.bytes ≡ (begun_file item.path old).bytes
  pub no_longer : length node.bytes ≤ max (length (begun_file item.path old).bytes) item.facts.size
  pub props :
      (node.props ≡ (begun_file item.path old).props)
      ⊎ (option_map (λ goal. goal.props) (goal_under copying (Some item) source old) ≡ Some node.props)

-- such a file stands there now
pub record IsOnItsWay (copying : Copying) (item : Item) (source old now : Option Node) : Type 0 where
  pub node : Node
  pub stands : now ≡ Some node
  pub half : IsHalfCopied copying item source old node

-- all is as it was, or the file is on its way
abbrev pub IsBetween : Copying → Item → Option Node → Option Node → Option Node → Type 0
IsBetween copying item source old now = (now ≡ old) ⊎ IsOnItsWay copying item source old now

-- the file of an item of this key, which copies it, is on its way
pub record IsChangedBy (copying : Copying) (items : List Item) (key : List (List ℕ)) (source old now : Option Node) : Type 0 where
  pub item : Item
  pub decided : item_at items key ≡ Some item
  pub copies : is_copy item.act ≡ true
  pub way : IsOnItsWay copying item source old now

-- at each key of the target all is as it was, or an item changed it
abbrev pub AreBetween : Copying → List Item → Told → Tree → Type 0
AreBetween copying items start now =
    (key : List (List ℕ)) →
    (get now key ≡ get start.target key)
    ⊎ IsChangedBy copying items key (get start.source key) (get start.target key) (get now key)

-- What the answers of the steps say

-- a fault comes only where a count rose
abbrev pub copy_cause : {T : Type 0} → Result T CopyErr → Cause
copy_cause (Ok value) = free
copy_cause (Err (copy_err.Failed side)) = on (part_for side) 1
copy_cause (Err copy_err.NoMemory) = free

-- the error of a call of a site that failed so
abbrev pub fault_of : SiteErr → Side → CopyErr
fault_of site_err.Failed side = copy_err.Failed side
fault_of site_err.NoMemory side = copy_err.NoMemory

-- at most what stands at one key of the target changes
abbrev pub ChangesTarget : Bool → List (List ℕ) → Cause → Seen → Seen → Type 0
ChangesTarget tells key cause old new = ChangesAt tells Target key (λ _ _. Unit {0}) cause old new

-- what stands there changes so
abbrev pub OnTarget : List (List ℕ) → Change → Seen → Seen → Type 0
OnTarget key change old new = change (node_at old.told Target key) (node_at new.told Target key)

-- at Ok a file that is copied has its goal, and else it may be on its way
abbrev pub Copies : {T : Type 0} → Result T CopyErr → Copying → Item → Option Node → Change
Copies (Ok value) copying item source old new = new ≡ copied copying item source old
Copies (Err e) copying item source old new = (is_copy item.act ≡ true) × IsBetween copying item source old new

-- at Ok the length of the file is answered
abbrev pub Begins : Result ℕ CopyErr → List (List ℕ) → Change
Begins (Ok size) path old new = (new ≡ Some (begun_file path old)) × (length (begun_file path old).bytes ≡ size)
Begins (Err e) path old new = Maybe (Comes (begun_file path old)) old new

-- at Ok the bytes are so, and else others, no more than there were or than this size
abbrev pub Fills : {T : Type 0} → Result T CopyErr → (Node → Node) → ℕ → Change
Fills (Ok value) filled size = Becomes filled
Fills (Err e) filled size = Turns (IsRefilled size)

-- a file's bytes, where bytes go along
abbrev pub with_bytes_of : Bool → List ℕ → Node → Node
with_bytes_of with_bytes bytes node = record node { bytes = picked with_bytes bytes node.bytes }

-- at Ok the properties are these, and else perhaps
abbrev pub GivesProps : {T : Type 0} → Result T CopyErr → Props → Change
GivesProps (Ok value) props = Becomes (with_props props)
GivesProps (Err e) props = Maybe (Becomes (with_props props))

-- the same of the properties of a copy
abbrev pub Finishes : {T : Type 0} → Result T CopyErr → Copying → Item → Node → Change
Finishes (Ok value) copying item from = Becomes (λ node. with_props (finished_props copying item from node) node)
Finishes (Err e) copying item from = Maybe (Becomes (λ node. with_props (finished_props copying item from node) node))

-- all that a copy of files leaves as it was
pub record CopiesFiles (tells : Bool) (cause : Cause) (old new : Seen) : Type 0 where
  pub source : tells ≡ true → new.told.source ≡ old.told.source
  pub notes : tells ≡ true → new.told.notes ≡ old.told.notes
  pub log : tells ≡ true → LogsOn part.Target old.log new.log
  pub bound : new.bound ≡ old.bound
  pub counts : Counts cause old.faults new.faults

-- what is told stands, and no changing call was made
pub record Rests (old new : Seen) : Type 0 where
  pub told : new.told ≡ old.told
  pub log : new.log ≡ old.log

-- whether an item copies a file
abbrev pub copies_any : List Item → Bool
copies_any items = list_any (λ item. is_copy item.act) items

-- what reads of the target is all that a stop may leave of it, where an item copied a file
abbrev pub IsDurable : List Item → Seen → Type 0
IsDurable items seen = copies_any items ≡ true → IsOnlyTree Target seen.log seen.told.target

-- at Ok these are added, and else perhaps
abbrev pub AddsWants : {T E : Type 0} → Result T E → List Want → List Want → List Want → Type 0
AddsWants (Ok value) wants old new = new ≡ old ++ wants
AddsWants (Err e) wants old new = (new ≡ old) ⊎ (new ≡ old ++ wants)
