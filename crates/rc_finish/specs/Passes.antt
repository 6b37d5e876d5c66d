-- What a pass over the items of a plan makes of a side, one key at a time.
use Rattle.std.specs.Prelude.{◌≡◌, ◌≢◌, ◌⊎◌, ℕ, ◌<◌, Bool, true, false, All, List, [], ◌∷◌, ◌++◌, length, Option, None, Some, IfSome, IsSomeAnd, option_map, Result, Ok, Err, if◌then◌else◌}
use Rattle.std.specs.FinMap.{get}
use Rattle.std.specs.List.{list_any}
use Rattle.rc_tree.specs.declared.attr.Kind.{Kind}
use Rattle.rc_tree.specs.declared.attr.Kind.TheVariants.{Dir}
use Rattle.rc_tree.specs.declared.props.Props.{Props}
use Rattle.rc_tree.specs.Path.{key_of, last_name, parent_of}
use Rattle.rc_tree.specs.Tree.{IsDirectory, Node, Tree}
use Rattle.rc_class.specs.declared.decision.Act.{Act}
use Rattle.rc_class.specs.declared.decision.Act.TheVariants.{Copy, Make, Touch, Fix, Purge, Extra, Mismatch, Keep}
use Rattle.rc_class.specs.declared.decision.After.{After}
use Rattle.rc_class.specs.declared.decision.After.TheVariants.{Nothing, RemoveSource, ClearArchive}
use Rattle.rc_class.specs.declared.item.Item.{Item}
use Rattle.rc_class.specs.declared.rules.Rules.{Rules}
use Rattle.rc_class.specs.Goal.{directory_props, fixed_props, fresh_attr, fresh_props, source_goal}
use Rattle.rc_class.specs.Items.{item_at}
use Rattle.rc_class.specs.Sides.{Fits, HasKind}
use Rattle.rc_volume.specs.declared.site.Side.{Side}
use Rattle.rc_volume.specs.declared.site.Side.TheVariants.{Target}
use Rattle.rc_volume.specs.Site.{Change, Maybe, Told, fresh_dir, node_at, other_side, with_props}

-- what an item makes of what stands at its key on a side, by what the other side has there
abbrev pub Pass : Type 0
Pass = Item → Option Node → Option Node → Option Node

abbrev pub pass_at : Pass → Option Item → Option Node → Option Node → Option Node
pass_at pass None other own = own
pass_at pass (Some item) other own = pass item other own

-- what a side has at a key once these items have passed
abbrev pub passed_on : Side → Pass → List Item → Told → List (List ℕ) → Option Node
passed_on side pass items told key = pass_at pass (item_at items key) (node_at told (other_side side) key) (node_at told side key)

-- at each key the side is what the pass makes of it
abbrev pub HasPassedOn : Side → Pass → List Item → Told → Tree → Type 0
HasPassedOn side pass items start now = (key : List (List ℕ)) → get now key ≡ passed_on side pass items start key

-- at each key it is so, or as it was
abbrev pub IsPassingOn : Side → Pass → List Item → Told → Tree → Type 0
IsPassingOn side pass items start now = (key : List (List ℕ)) → (get now key ≡ node_at start side key) ⊎ (get now key ≡ passed_on side pass items start key)

-- the same of the target
abbrev pub HasPassed : Pass → List Item → Told → Tree → Type 0
HasPassed = HasPassedOn Target

abbrev pub IsPassing : Pass → List Item → Told → Tree → Type 0
IsPassing = IsPassingOn Target

-- none is at the root
abbrev pub AreBelowRoot : List Item → Type 0
AreBelowRoot items = All (λ item. 0 < length item.path) items

-- What becomes of one key, by the answer

abbrev pub IsNow : (Option Node → Option Node) → Change
IsNow change old new = new ≡ change old

-- at Ok it is done, and else perhaps
abbrev pub Ends : {T E : Type 0} → Result T E → Change → Change
Ends (Ok value) done = done
Ends (Err e) done = Maybe done

-- Directories

-- nothing or a directory stands at the path, and its parent is the root or a directory
pub record IsMakable (target : Tree) (path : List (List ℕ)) : Type 0 where
  pub parent : IsSomeAnd (parent_of path) (λ parent. IsDirectory target (key_of parent))
  pub here : IfSome (get target (key_of path)) (λ node. node.kind ≡ Dir)

abbrev pub is_make : Act → Bool
is_make Make = true
is_make Copy = false
is_make Touch = false
is_make Fix = false
is_make Purge = false
is_make Extra = false
is_make Mismatch = false
is_make (Keep reason) = false

-- both trees have what each item says: they are those at the start, or on their way to the goals. What is made is a
-- directory
abbrev pub AreFit : List Item → Told → Type 0
AreFit items told =
    (key : List (List ℕ)) (item : Item) → item_at items key ≡ Some item →
    Fits (item_at items) told.source told.target key item × (is_make item.act ≡ true → item.facts.kind ≡ Dir)

-- the directory that stands there, or one as a site makes it
abbrev pub begun_directory : List (List ℕ) → Option Node → Node
begun_directory path (Some node) = node
begun_directory path None = fresh_dir (last_name path)

-- what is made of what stands where a directory is to be
abbrev pub directory_at : List (List ℕ) → Option Node → Option Node
directory_at path old = Some (begun_directory path old)

-- directories are made
abbrev pub made : Pass
made item source target = if is_make item.act then directory_at item.path target else target

-- Properties

abbrev pub gives_props : Act → Bool
gives_props Make = true
gives_props Touch = true
gives_props Fix = true
gives_props Copy = false
gives_props Purge = false
gives_props Extra = false
gives_props Mismatch = false
gives_props (Keep reason) = false

-- the properties that an act gives to an entry, from the source's: a directory that was made gets those of a new one
abbrev pub props_given : Rules → ℕ → Act → Props → Props → Props
props_given rules moment Make from old = directory_props rules from (fresh_props (fresh_attr Dir) moment)
props_given rules moment Touch from old = directory_props rules from old
props_given rules moment Fix from old = fixed_props rules from old
props_given rules moment _ from old = old

abbrev pub with_given : Rules → ℕ → Act → Props → Node → Node
with_given rules moment does from node = with_props (props_given rules moment does from node.props) node

-- properties are given, where the source has the entry still
abbrev pub given : Rules → ℕ → Pass
given rules moment item None target = target
given rules moment item (Some from) target =
    if gives_props item.act then option_map (with_given rules moment item.act from.props) target else target

-- whether a plan has an item for a pass
abbrev pub has_any : (Act → Bool) → List Item → Bool
has_any is_own items = list_any (λ item. is_own item.act) items

-- Removals

-- what an item that is to be purged says, and one whose source is to be removed
abbrev pub ToPurge : Item → Type 0
ToPurge item = item.act ≡ Purge

abbrev pub ToRemove : Item → Type 0
ToRemove item = item.after ≡ RemoveSource

-- below the key of such an item, all that the tree has is at keys of such items
abbrev pub AreWhole : (Item → Type 0) → List Item → Tree → Type 0
AreWhole own items tree =
    (key : List (List ℕ)) (item : Item) (names : List (List ℕ)) → item_at items key ≡ Some item → own item →
    get tree (key ++ names) ≢ None → IsSomeAnd (item_at items (key ++ names)) own

-- nothing stands in what stands at the key
abbrev pub IsBare : Tree → List (List ℕ) → Type 0
IsBare tree key = (name : List ℕ) → get tree (key ++ name ∷ []) ≡ None

abbrev pub is_purge : Act → Bool
is_purge Purge = true
is_purge Copy = false
is_purge Make = false
is_purge Touch = false
is_purge Fix = false
is_purge Extra = false
is_purge Mismatch = false
is_purge (Keep reason) = false

-- what the target has beyond the source is removed
abbrev pub purged : Pass
purged item source target = if is_purge item.act then None else target

-- Sources

-- the source's entry is removed, or loses A, as its item says
abbrev pub freed : Pass
freed item target source = source_goal (Some item) source

abbrev pub is_freed : After → Bool
is_freed RemoveSource = true
is_freed ClearArchive = true
is_freed Nothing = false

-- whether a plan has an item of which the source's entry is removed, or loses A
abbrev pub frees_any : List Item → Bool
frees_any items = list_any (λ item. is_freed item.after) items

-- the same properties without A
abbrev pub without_archive : Props → Props
without_archive props = record props { attr = record props.attr { archive = false } }

-- On the way

-- what an act may have made of what stood at its key, by the kind of its item, in whole or in part
abbrev pub GoesOn : Act → Kind → Option Node → Type 0
GoesOn Copy kind now = HasKind kind now
GoesOn Make kind now = HasKind kind now
GoesOn Touch kind now = HasKind kind now
GoesOn Fix kind now = HasKind kind now
GoesOn Purge kind now = now ≡ None
GoesOn _ kind now = ⊥

-- at each key the target is as it was, or its item has begun
abbrev pub IsOnItsWay : List Item → Tree → Tree → Type 0
IsOnItsWay items start now =
    (key : List (List ℕ)) → (get now key ≡ get start key) ⊎ IsSomeAnd (item_at items key) (λ item. GoesOn item.act item.facts.kind (get now key))
