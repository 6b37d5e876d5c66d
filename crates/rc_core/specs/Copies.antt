-- Files that are copied: where they end, what stands on the way there, and what a mark says.
use Rattle.std.specs.Prelude.{◌≡◌, ℕ, ◌+◌, ◌<◌, ◌≤◌, Bool, true, false, List, [], Option, Some, None, IfSome, IsSomeAnd, option_map, length, slice_get, filter}
use Rattle.std.specs.FinMap.{get}
use Rattle.rc_tree.specs.declared.attr.Kind.TheVariants.{File}
use Rattle.rc_tree.specs.Path.{key_of}
use Rattle.rc_tree.specs.Tree.{Node, Tree}
use Rattle.rc_class.specs.declared.item.Item.{Item}
use Rattle.rc_class.specs.declared.plan.Plan.{Plan}
use Rattle.rc_class.specs.declared.rules.Rules.{Rules}
use Rattle.rc_class.specs.Class.{is_lonely}
use Rattle.rc_class.specs.Goal.{copied_file, copy_base}
use Rattle.rc_class.specs.Units.{Range, Unit, is_copy, units_of}
use Rattle.rc_volume.specs.Images.{AreMixed}

-- On the way

-- a file that is copied over another: still its spelling, each property its own or that of the goal, and its own bytes
-- where bytes do not go along
pub record IsOver (with_bytes : Bool) (old goal now : Node) : Type 0 where
  pub is_file : now.kind ≡ File
  pub spelling : now.spelling ≡ old.spelling
  pub props : AreMixed old.props goal.props now.props
  pub bytes : with_bytes ≡ false → now.bytes ≡ old.bytes

-- a file that is copied where there was none: the goal's spelling, and no bytes where bytes do not go along
pub record IsNew (with_bytes : Bool) (goal now : Node) : Type 0 where
  pub is_file : now.kind ≡ File
  pub spelling : now.spelling ≡ goal.spelling
  pub bytes : with_bytes ≡ false → now.bytes ≡ []

-- what stands at the key of a copy, from its beginning to its end: where the target had none when all was decided, nothing
-- or a new file, and else a file over the old one
abbrev pub IsUnderway : Bool → Bool → Option Node → Option Node → Option Node → Type 0
IsUnderway true with_bytes old goal now = IfSome now (λ node. IsSomeAnd goal (λ end. IsNew with_bytes end node))
IsUnderway false with_bytes old goal now =
    IsSomeAnd old (λ before. IsSomeAnd goal (λ end. IsSomeAnd now (λ node. (before.kind ≡ File) × IsOver with_bytes before end node)))

-- where a copy ends, if the two sides had this
abbrev pub copy_goal : Rules → Plan → Item → Option Node → Option Node → Option Node
copy_goal rules plan item None old = None
copy_goal rules plan item (Some source) old = option_map (copied_file rules plan.with_bytes source) (copy_base item.class plan.moment source old)

-- what stands on the way of an item's copy
abbrev pub IsOnWay : Rules → Plan → Item → Option Node → Option Node → Option Node → Type 0
IsOnWay rules plan item source old now =
    IsUnderway (is_lonely item.class) plan.with_bytes old (copy_goal rules plan item source old) now

-- Bytes

-- the same bytes from an offset on, so many
abbrev pub AreSameBytes : ℕ → ℕ → List ℕ → List ℕ → Type 0
AreSameBytes off len from bytes = (i : ℕ) → off ≤ i → i < off + len → slice_get bytes i ≡ slice_get from i

-- a file of the source's length with its bytes in a range
pub record HasBytes (off len : ℕ) (source : List ℕ) (node : Node) : Type 0 where
  pub is_file : node.kind ≡ File
  pub size : length node.bytes ≡ length source
  pub bytes : AreSameBytes off len source node.bytes

-- such a file stands there
abbrev pub Holds : Range → Option Node → Option Node → Type 0
Holds range source now = IsSomeAnd source (λ from. IsSomeAnd now (HasBytes range.off range.len from.bytes))

-- Marks

-- the mark with a number stands
abbrev pub IsMarked : List Bool → ℕ → Type 0
IsMarked marks n = slice_get marks n ≡ Some true

-- the unit of a plan with a number, and the copied item
abbrev pub unit_at : Plan → ℕ → Option Unit
unit_at plan n = slice_get (units_of plan) n

abbrev pub copies_of : Plan → List Item
copies_of plan = filter (λ item. is_copy item.act) plan.items

abbrev pub copy_at : Plan → ℕ → Option Item
copy_at plan n = slice_get (copies_of plan) n

-- all units of the file at a key are marked
abbrev pub AreMarkedAt : Plan → List Bool → List (List ℕ) → Type 0
AreMarkedAt plan units key = (n : ℕ) (unit : Unit) → unit_at plan n ≡ Some unit → key_of unit.item.path ≡ key → IsMarked units n

-- what the marks of a plan say of the target, where a run began on these trees
pub record MarksHold (rules : Rules) (plan : Plan) (units finished : List Bool) (source old now : Tree) : Type 0 where
  pub unit_holds : (n : ℕ) (unit : Unit) → unit_at plan n ≡ Some unit → IsMarked units n → Holds unit.range (get source (key_of unit.item.path)) (get now (key_of unit.item.path))
  pub file_ends : (n : ℕ) (item : Item) → copy_at plan n ≡ Some item → IsMarked finished n → get now (key_of item.path) ≡ copy_goal rules plan item (get source (key_of item.path)) (get old (key_of item.path))
  pub file_units : (n : ℕ) (item : Item) → copy_at plan n ≡ Some item → IsMarked finished n → AreMarkedAt plan units (key_of item.path)
