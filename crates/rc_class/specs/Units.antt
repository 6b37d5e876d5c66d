-- The units of a plan: ranges of bytes of the files that are copied.
use Rattle.std.specs.Prelude.{ℕ, ◌+◌, ◌-◌, ◌*◌, ◌≤◌, ◌<◌, ◌==◌, Bool, true, false, ◌&&◌, List, [], min, map, All, AllPairs, Contains, if◌then◌else◌}
use Rattle.std.specs.List.{flat_map, range_with_len}
use Rattle.std.specs.Int.{div_ceil}
use Rattle.rc_class.specs.declared.decision.Act.{Act}
use Rattle.rc_class.specs.declared.decision.Act.TheVariants.{Copy, Make, Touch, Fix, Purge, Extra, Mismatch, Keep}
use Rattle.rc_class.specs.declared.item.Item.{Item}
use Rattle.rc_class.specs.declared.plan.Plan.{Plan}

abbrev pub is_copy : Act → Bool
is_copy Copy = true
is_copy Make = false
is_copy Touch = false
is_copy Fix = false
is_copy Purge = false
is_copy Extra = false
is_copy Mismatch = false
is_copy (Keep reason) = false

-- a range of bytes: where it begins, and how many it has
pub record Range : Type 0 where
  pub off : ℕ
  pub len : ℕ

-- a unit: a file that is copied, and a range of it
pub record Unit : Type 0 where
  pub item : Item
  pub range : Range

abbrev pub unit_of : Item → Range → Unit
unit_of item range = record { item = item; range = range }

-- how many ranges a file of a size has: one of all its bytes, or strides, and none where it has no bytes
abbrev pub range_count : ℕ → ℕ → ℕ
range_count stride size = if stride == 0 then min 1 size else div_ceil size stride

-- how long they are at most
abbrev pub range_len : ℕ → ℕ → ℕ
range_len stride size = if stride == 0 then size else stride

-- the range with a number: the last one may be shorter
abbrev pub range_at : ℕ → ℕ → ℕ → Range
range_at stride size n = record { off = n * range_len stride size; len = min (range_len stride size) (size - n * range_len stride size) }

abbrev pub ranges_of : ℕ → ℕ → List Range
ranges_of stride size = map (range_at stride size) (range_with_len 0 (range_count stride size))

-- the units of an item, where copies have bytes: of no other act than a copy
abbrev pub item_units : ℕ → Bool → Item → List Unit
item_units stride with_bytes item =
    if with_bytes && is_copy item.act then map (unit_of item) (ranges_of stride item.facts.size) else []

-- in the order of the items, and in a file by their place
abbrev pub units_of : Plan → List Unit
units_of plan = flat_map (item_units plan.stride plan.with_bytes) plan.items

-- Laws of the ranges of one file

-- each has bytes and ends in the file
abbrev pub AreInside : ℕ → List Range → Type 0
AreInside size ranges = All (λ range. (0 < range.len) × (range.off + range.len ≤ size)) ranges

-- each ends before the later ones begin
abbrev pub AreApart : List Range → Type 0
AreApart ranges = AllPairs (λ range later. range.off + range.len ≤ later.off) ranges

-- each byte of the file is in one of them
abbrev pub Cover : ℕ → List Range → Type 0
Cover size ranges = (place : ℕ) → place < size → (range : Range) × Contains ranges range × (range.off ≤ place) × (place < range.off + range.len)
