-- What stands at the keys of both sides while a run is under way, and what a stop then leaves of them.
use Rattle.std.specs.Prelude.{◌≡◌, ◌⊎◌, ℕ, Bool, true, not, All, List, ◌++◌, Option, Some}
use Rattle.std.specs.FinMap.{get}
use Rattle.std.specs.List.{list_any}
use Rattle.rc_tree.specs.Tree.{Node, Tree}
use Rattle.rc_class.specs.declared.decision.Act.{Act}
use Rattle.rc_class.specs.declared.decision.Act.TheVariants.{Copy, Make, Touch, Fix, Purge, Extra, Mismatch, Keep}
use Rattle.rc_class.specs.declared.item.Item.{Item}
use Rattle.rc_class.specs.Goal.{is_left, source_goal}
use Rattle.rc_class.specs.Items.{item_at}
use Rattle.rc_copy.specs.declared.copying.Copying.{Copying}
use Rattle.rc_copy.specs.Copying.{IsOnItsWay, goal_under}
use Rattle.rc_finish.specs.Passes.{directory_at, frees_any}
use Rattle.rc_volume.specs.declared.site.Part.TheVariants as part
use Rattle.rc_volume.specs.declared.site.Side.{Side}
use Rattle.rc_volume.specs.declared.site.Side.TheVariants.{Source, Target}
use Rattle.rc_volume.specs.Faults.{Cause, Counts}
use Rattle.rc_volume.specs.Images.{IsOnlyTree}
use Rattle.rc_volume.specs.Log.{Event, LogsOn, is_on}
use Rattle.rc_volume.specs.Site.{Seen, Told, tree_of}

-- The target

-- the item's goal stands there
abbrev pub IsGoal : Copying → Item → Option Node → Option Node → Option Node → Type 0
IsGoal copying item source old now = now ≡ goal_under copying (Some item) source old

-- what an act has made of a key by now: a file is on its way, a directory was made or has its goal, and other properties
-- are given, and entries removed, at once
abbrev pub HasBegun : Copying → Item → Act → Option Node → Option Node → Option Node → Type 0
HasBegun copying item Copy source old now = IsOnItsWay copying item source old now
HasBegun copying item Make source old now = (now ≡ directory_at item.path old) ⊎ IsGoal copying item source old now
HasBegun copying item Touch source old now = IsGoal copying item source old now
HasBegun copying item Fix source old now = IsGoal copying item source old now
HasBegun copying item Purge source old now = IsGoal copying item source old now
HasBegun copying item Extra source old now = ⊥
HasBegun copying item Mismatch source old now = ⊥
HasBegun copying item (Keep reason) source old now = ⊥

-- the item of this key has begun to change it
pub record IsUnderWay (copying : Copying) (items : List Item) (key : List (List ℕ)) (source old now : Option Node) : Type 0 where
  pub item : Item
  pub decided : item_at items key ≡ Some item
  pub begun : HasBegun copying item item.act source old now

-- at each key of the target all is as it was, or its item has begun to change it
abbrev pub AreUnderWay : Copying → List Item → Told → Tree → Type 0
AreUnderWay copying items start now =
    (key : List (List ℕ)) →
    (get now key ≡ get start.target key)
    ⊎ IsUnderWay copying items key (get start.source key) (get start.target key) (get now key)

-- each key of the target has its item's goal
abbrev pub HaveGoals : Copying → List Item → Told → Tree → Type 0
HaveGoals copying items start now =
    (key : List (List ℕ)) → get now key ≡ goal_under copying (item_at items key) (get start.source key) (get start.target key)

-- The source

-- each key of the source has its item's goal
abbrev pub AreReleased : List Item → Told → Tree → Type 0
AreReleased items start now = (key : List (List ℕ)) → get now key ≡ source_goal (item_at items key) (get start.source key)

-- at each key of the source all is as it was, or its item's goal stands
abbrev pub AreReleasing : List Item → Told → Tree → Type 0
AreReleasing items start now =
    (key : List (List ℕ)) →
    (get now key ≡ get start.source key)
    ⊎ (get now key ≡ source_goal (item_at items key) (get start.source key))

-- What a stop leaves

-- whether an item changes a side
abbrev pub changes_any : Side → List Item → Bool
changes_any Source items = frees_any items
changes_any Target items = list_any (λ item. not (is_left item.act)) items

-- where an item changes a side, a stop leaves of it this tree and no other
abbrev pub IsLastingOn : Side → List Item → List Event → Tree → Type 0
IsLastingOn side items log tree = changes_any side items ≡ true → IsOnlyTree side log tree

-- so of both sides what reads
abbrev pub IsLasting : List Item → Seen → Type 0
IsLasting items seen = (side : Side) → IsLastingOn side items seen.log (tree_of seen.told side)

-- the source is changed behind the target alone: there was a moment at which the target had its goals (a stop left of it
-- nothing else, where an item changes the target), and all calls since then are on the source
pub record IsReleasing (copying : Copying) (items : List Item) (start : Told) (log : List Event) (now : Seen) : Type 0 where
  pub moment : List Event
  pub before : LogsOn part.Target log moment
  pub goals : HaveGoals copying items start now.told.target
  pub lasting : IsLastingOn Target items moment now.told.target
  pub since : List Event
  pub is : now.log ≡ moment ++ since
  pub on_source : All (λ event. is_on part.Source event ≡ true) since

-- nothing of the source is changed, or it is changed behind the target
abbrev pub ReleasesLast : Copying → List Item → Seen → Seen → Type 0
ReleasesLast copying items start now =
    ((now.told.source ≡ start.told.source) × LogsOn part.Target start.log now.log)
    ⊎ IsReleasing copying items start.told start.log now

-- all that a change of both trees leaves as it was
pub record ChangesTrees (tells : Bool) (cause : Cause) (old new : Seen) : Type 0 where
  pub notes : tells ≡ true → new.told.notes ≡ old.told.notes
  pub bound : new.bound ≡ old.bound
  pub counts : Counts cause old.faults new.faults
