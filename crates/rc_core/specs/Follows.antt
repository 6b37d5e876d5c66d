-- What a run begins on, what a stop leaves of it, and when the one follows the other or is held for a start. Marks stand
-- here in place of the record's bytes.
use Rattle.std.specs.Prelude.{◌≡◌, ◌≢◌, ◌⊎◌, ℕ, ◌<◌, Bool, true, false, List, Option, Some, None, IfSome, IsSomeAnd, length}
use Rattle.std.specs.FinMap.{get}
use Rattle.rc_tree.specs.declared.attr.Kind.TheVariants.{Dir}
use Rattle.rc_tree.specs.Path.{key_of, last_name}
use Rattle.rc_tree.specs.Tree.{Node, Tree, IsTree}
use Rattle.rc_class.specs.declared.decision.Act.{Act}
use Rattle.rc_class.specs.declared.decision.Act.TheVariants as act
use Rattle.rc_class.specs.declared.decision.After.TheVariants.{Nothing}
use Rattle.rc_class.specs.declared.item.Item.{Item}
use Rattle.rc_class.specs.declared.noted.Noted.{Noted}
use Rattle.rc_class.specs.declared.plan.Plan.{Plan}
use Rattle.rc_class.specs.declared.rules.Rules.{Rules}
use Rattle.rc_class.specs.Items.{are_rising, item_at}
use Rattle.rc_class.specs.Sides.{Acts, Fits, IsDecidedIn}
use Rattle.rc_class.specs.Start.{Start, IsPlanOf, goal_source, goal_target}
use Rattle.rc_class.specs.Units.{is_copy, units_of}
use Rattle.rc_volume.specs.Images.{AreMixed}
use Rattle.rc_core.specs.Copies.{IsMarked, IsOnWay, MarksHold, copies_of, copy_at}

-- a plan with its marks, and two trees
pub record Image : Type 0 where
  pub noted : Noted
  pub source : Tree
  pub target : Tree

-- where a run begins to copy: an image, and what of the properties goes along
pub record Opening : Type 0 where
  pub rules : Rules
  pub image : Image

-- Follows

-- the source has the file of an item: of its kind and size, and spelled as the path of the item ends
abbrev pub HasFileOf : Item → Option Node → Type 0
HasFileOf item source =
    IsSomeAnd source (λ node. (node.kind ≡ item.facts.kind) × (length node.bytes ≡ item.facts.size) × (last_name item.path ≡ node.spelling))

-- all marks of the one stand in the other
abbrev pub AreKept : List Bool → List Bool → Type 0
AreKept old new = (n : ℕ) → IsMarked old n → IsMarked new n

-- an image that copying leaves of an opening: the files that are copied are on their way, and all else stands
pub record Follows (opening : Opening) (image : Image) : Type 0 where
  pub plan : image.noted.plan ≡ opening.image.noted.plan
  pub units : AreKept opening.image.noted.units image.noted.units
  pub finished : AreKept opening.image.noted.finished image.noted.finished
  pub not_last : image.noted.last ≡ false
  pub source : image.source ≡ opening.image.source
  pub sources : (n : ℕ) (item : Item) → copy_at image.noted.plan n ≡ Some item → HasFileOf item (get image.source (key_of item.path))
  pub elsewhere : (key : List (List ℕ)) → ¬ Acts act.Copy (item_at image.noted.plan.items key) → get image.target key ≡ get opening.image.target key
  pub ways : (n : ℕ) (item : Item) → copy_at image.noted.plan n ≡ Some item →
      IsOnWay opening.rules image.noted.plan item (get image.source (key_of item.path)) (get opening.image.target (key_of item.path)) (get image.target (key_of item.path))
  pub marks : MarksHold opening.rules image.noted.plan image.noted.units image.noted.finished image.source opening.image.target image.target

-- an opening whose own marks hold
abbrev pub FollowsItself : Opening → Type 0
FollowsItself opening = Follows opening opening.image

-- Openings

-- one mark for each unit and each copied file, and items in the order of their keys
pub record IsNoted (noted : Noted) : Type 0 where
  pub rising : are_rising noted.plan.items ≡ true
  pub units : length noted.units ≡ length (units_of noted.plan)
  pub finished : length noted.finished ≡ length (copies_of noted.plan)

-- the items can be carried out on the trees
abbrev pub AreFit : Image → Type 0
AreFit image = (key : List (List ℕ)) (item : Item) → item_at image.noted.plan.items key ≡ Some item → Fits (item_at image.noted.plan.items) image.source image.target key item

-- the directories that are made stand
abbrev pub AreMade : Image → Type 0
AreMade image = (key : List (List ℕ)) → Acts act.Make (item_at image.noted.plan.items key) → IsSomeAnd (get image.target key) (λ node. node.kind ≡ Dir)

-- an opening from which copying may begin
pub record IsOpen (opening : Opening) : Type 0 where
  pub noted : IsNoted opening.image.noted
  pub follows : FollowsItself opening
  pub fit : AreFit opening.image
  pub made : AreMade opening.image
  pub source_tree : IsTree opening.image.source
  pub target_tree : IsTree opening.image.target

-- Held

-- an entry whose properties alone are changed: each its own or that of the goal
pub record IsChanging (old goal now : Node) : Type 0 where
  pub rest : now ≡ record old { props = now.props }
  pub props : AreMixed old.props goal.props now.props

-- what the target has on the way at the key of an act, where it had this, and has that in the end
abbrev pub IsHeldBy : Act → Option Node → Option Node → Option Node → Type 0
IsHeldBy act.Make old goal now = IfSome now (λ node. (node.kind ≡ Dir) × IsSomeAnd goal (λ end. node.spelling ≡ end.spelling))
IsHeldBy act.Touch old goal now = IsSomeAnd old (λ before. IsSomeAnd goal (λ end. IsSomeAnd now (IsChanging before end)))
IsHeldBy act.Fix old goal now = IsSomeAnd old (λ before. IsSomeAnd goal (λ end. IsSomeAnd now (IsChanging before end)))
IsHeldBy act.Purge old goal now = (now ≡ old) ⊎ (now ≡ None)
-- a copy has its own words: IsOnWay
IsHeldBy act.Copy old goal now = Unit {0}
IsHeldBy _ old goal now = now ≡ old

-- the same at a key of a start
abbrev pub IsHeldAt : Start → Plan → Option Item → Option Node → Option Node → Option Node → Option Node → Type 0
IsHeldAt start plan None source old goal now = now ≡ old
IsHeldAt start plan (Some item) source old goal now =
    IsHeldBy item.act old goal now × (is_copy item.act ≡ true → IsOnWay start.rules plan item source old now)

-- and at a key of its target
abbrev pub IsHeldIn : Start → Plan → Tree → List (List ℕ) → Type 0
IsHeldIn start plan target key =
    IsHeldAt start plan (item_at plan.items key) (get start.source key) (get start.target key) (goal_target start plan.moment key) (get target key)

-- what becomes of the source's entry behind its copy may have become of it
abbrev pub IsReleasing : Option Item → Option Node → Option Node → Option Node → Type 0
IsReleasing None old goal now = now ≡ old
IsReleasing (Some item) old goal now = (now ≡ old) ⊎ ((item.after ≢ Nothing) × (now ≡ goal))

-- once all is copied: each mark stands, the target is as it is to be, and the source on its way there
pub record IsLast (start : Start) (image : Image) : Type 0 where
  pub units : (n : ℕ) → n < length (units_of image.noted.plan) → IsMarked image.noted.units n
  pub finished : (n : ℕ) → n < length (copies_of image.noted.plan) → IsMarked image.noted.finished n
  pub target : (key : List (List ℕ)) → get image.target key ≡ goal_target start image.noted.plan.moment key
  pub source : (key : List (List ℕ)) → IsReleasing (item_at image.noted.plan.items key) (get start.source key) (goal_source start image.noted.plan.moment key) (get image.source key)

-- the items of a start are decided by what both trees have
abbrev pub IsDecided : Start → Type 0
IsDecided start = (moment : ℕ) (key : List (List ℕ)) (item : Item) → start.decided moment key ≡ Some item → IsDecidedIn start moment key item

-- an image from which a run of a start goes on
pub record IsHeld (start : Start) (image : Image) : Type 0 where
  pub plan : IsPlanOf start image.noted.plan
  pub target : (key : List (List ℕ)) → IsHeldIn start image.noted.plan image.target key
  pub marks : MarksHold start.rules image.noted.plan image.noted.units image.noted.finished start.source start.target image.target
  pub source : image.noted.last ≡ false → image.source ≡ start.source
  pub last : image.noted.last ≡ true → IsLast start image
