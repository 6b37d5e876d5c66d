-- What a pass answers, and which calls it makes.
use Rattle.std.specs.Prelude.{◌≡◌, ◌⊎◌, ℕ, ◌+◌, Bool, true, List, [], ◌∷◌, ◌++◌, All, Contains, replicate, Option, None, Some, Result, Ok, Err, option_map, if◌then◌else◌}
use Rattle.std.specs.FinMap.{get}
use Rattle.rc_tree.specs.Path.{key_of, last_name}
use Rattle.rc_tree.specs.declared.props.Props.{Props}
use Rattle.rc_tree.specs.Tree.{IsTree, Node, Tree}
use Rattle.rc_class.specs.declared.decision.After.{After}
use Rattle.rc_class.specs.declared.decision.After.TheVariants.{Nothing, RemoveSource, ClearArchive}
use Rattle.rc_class.specs.declared.item.Item.{Item}
use Rattle.rc_class.specs.declared.rules.Rules.{Rules}
use Rattle.rc_volume.specs.declared.site.Side.{Side}
use Rattle.rc_volume.specs.declared.site.Side.TheVariants.{Target}
use Rattle.rc_volume.specs.declared.site.SiteErr.{SiteErr}
use Rattle.rc_volume.specs.declared.site.SiteErr.TheVariants as site_err
use Rattle.rc_volume.specs.Faults.{Cause, free, on, part_for}
use Rattle.rc_class.specs.Items.{item_at}
use Rattle.rc_volume.specs.Images.{Half, MayLeave}
use Rattle.rc_volume.specs.Log.{Event, EntryCall, changed, make, remove, set_props, synced}
use Rattle.rc_volume.specs.Site.{Told, fresh_dir}
use Rattle.rc_finish.specs.declared.err.FinishErr.{FinishErr}
use Rattle.rc_finish.specs.declared.err.FinishErr.TheVariants as finish_err
use Rattle.rc_finish.specs.Passes.{Pass, gives_props, is_make, is_purge, props_given, without_archive}

-- a fault comes only behind so many retries, each of which failed on that side
abbrev pub finish_cause : {T : Type 0} → ℕ → Result T FinishErr → Cause
finish_cause retries (Ok value) = free
finish_cause retries (Err (finish_err.SiteFault side)) = on (part_for side) (retries + 1)
finish_cause retries (Err finish_err.NoMemory) = free

-- the error of a call that failed on a side for the last time
abbrev pub fault_of : SiteErr → Side → FinishErr
fault_of site_err.Failed side = finish_err.SiteFault side
fault_of site_err.NoMemory side = finish_err.NoMemory

-- a sync of a side where it is asked for: it is in the log where it succeeded
abbrev pub SyncsWhere : {T : Type 0} → Side → Bool → Result T FinishErr → Tree → List Event → List Event → Type 0
SyncsWhere side asked (Ok value) tree old new = new ≡ old ++ (if asked then synced side tree ∷ [] else [])
SyncsWhere side asked (Err e) tree old new = new ≡ old

-- the same call came some times, and nothing else
abbrev pub LogsEach : Event → List Event → List Event → Type 0
LogsEach event old new = (times : ℕ) × (new ≡ old ++ replicate times event)

-- the same call came some times, where an entry stands: it gets what an act gives it
abbrev pub LogsGiven : Rules → ℕ → Item → Props → Option Node → List Event → List Event → Type 0
LogsGiven rules moment item from None old new = new ≡ old
LogsGiven rules moment item from (Some node) old new =
    LogsEach (changed Target (key_of item.path) (set_props (props_given rules moment item.act from node.props))) old new

-- which calls a pass makes at the key of an item

-- a directory is made
abbrev pub Makes : Item → EntryCall → Type 0
Makes item call = (is_make item.act ≡ true) × (call ≡ make (fresh_dir (last_name item.path)))

-- it gets the properties that the pass gives it
abbrev pub Gives : Pass → Told → Item → EntryCall → Type 0
Gives pass start item call =
    (gives_props item.act ≡ true)
    × (option_map set_props (option_map (λ node. node.props) (pass item (get start.source (key_of item.path)) (get start.target (key_of item.path)))) ≡ Some call)

-- it is removed
abbrev pub Purges : Item → EntryCall → Type 0
Purges item call = (is_purge item.act ≡ true) × (call ≡ remove)

-- the call that does to an entry of the source what comes after its copy
abbrev pub freeing : After → Option Node → Option EntryCall
freeing Nothing source = None
freeing RemoveSource source = Some remove
freeing ClearArchive source = option_map (λ node. set_props (without_archive node.props)) source

abbrev pub Frees : Told → Item → EntryCall → Type 0
Frees start item call = freeing item.after (get start.source (key_of item.path)) ≡ Some call

-- an event is such a call on a side, for one of these items
pub record IsCallOn (side : Side) (calls : Item → EntryCall → Type 0) (items : List Item) (event : Event) : Type 0 where
  pub item : Item
  pub has : Contains items item
  pub call : EntryCall
  pub allowed : calls item call
  pub is : event ≡ changed side (key_of item.path) call

-- behind an old log stand such calls alone
pub record LogsCallsOn (side : Side) (calls : Item → EntryCall → Type 0) (items : List Item) (old new : List Event) : Type 0 where
  pub events : List Event
  pub each : All (IsCallOn side calls items) events
  pub is : new ≡ old ++ events

-- and at Ok, behind them, a sync of what reads, exactly where there is an item for the pass
pub record LogsPassOn (side : Side) (is_synced : Bool) (calls : Item → EntryCall → Type 0) (items : List Item) (tree : Tree) (old new : List Event) : Type 0 where
  pub before : List Event
  pub called : LogsCallsOn side calls items old before
  pub is : new ≡ before ++ (if is_synced then synced side tree ∷ [] else [])
  pub reads : is_synced ≡ true → IsTree tree

-- the same of the target
abbrev pub IsCallFor : (Item → EntryCall → Type 0) → List Item → Event → Type 0
IsCallFor = IsCallOn Target

abbrev pub LogsCalls : (Item → EntryCall → Type 0) → List Item → List Event → List Event → Type 0
LogsCalls = LogsCallsOn Target

abbrev pub LogsPass : Bool → (Item → EntryCall → Type 0) → List Item → Tree → List Event → List Event → Type 0
LogsPass = LogsPassOn Target

-- What a stop in the middle of a pass leaves

-- what stood at a key of an item went on by the call of the pass for that item, half done or done
pub record IsLeftBy (calls : Item → EntryCall → Type 0) (items : List Item) (key : List (List ℕ)) (old new : Option Node) : Type 0 where
  pub item : Item
  pub decided : item_at items key ≡ Some item
  pub call : EntryCall
  pub allowed : calls item call
  pub half : Half call old new

-- an image of a side is one that might have been left before the pass, but for such keys
pub record IsLeftAfterOn (side : Side) (calls : Item → EntryCall → Type 0) (items : List Item) (log : List Event) (image : Tree) : Type 0 where
  pub old : Tree
  pub left : MayLeave side log old
  pub each : (key : List (List ℕ)) → (get image key ≡ get old key) ⊎ IsLeftBy calls items key (get old key) (get image key)

-- the same of the target
abbrev pub IsLeftAfter : (Item → EntryCall → Type 0) → List Item → List Event → Tree → Type 0
IsLeftAfter = IsLeftAfterOn Target
