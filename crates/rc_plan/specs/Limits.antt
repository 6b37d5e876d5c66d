-- How much a plan has at most.
use Rattle.std.specs.Prelude.{◌^◌, Bool, not, ◌&&◌, List, [], ◌∷◌, Option, Some, None, nat_lt, if◌then◌else◌}
use Rattle.std.specs.List.{count_by}
use Rattle.rc_class.specs.declared.item.Item.{Item}
use Rattle.rc_class.specs.Class.{is_extra, is_lonely}
use Rattle.rc_class.specs.Units.{is_copy}
use Rattle.rc_volume.specs.declared.site.Side.TheVariants.{Source, Target}
use Rattle.rc_plan.specs.declared.plan.PlanErr.{PlanErr}
use Rattle.rc_plan.specs.declared.plan.PlanErr.TheVariants.{TooMany, TooBig}

-- the source has an entry at the key of an item
abbrev pub has_source : Item → Bool
has_source item = not (is_extra item.class)

-- and the target
abbrev pub has_target : Item → Bool
has_target item = not (is_lonely item.class)

-- a file that is copied is larger than 2^40 bytes
abbrev pub is_too_big : Item → Bool
is_too_big item = is_copy item.act && nat_lt (2 ^ 40) item.facts.size

-- the first such file
abbrev pub first_too_big : List Item → Option Item
first_too_big [] = None
first_too_big (item ∷ items) = if is_too_big item then Some item else first_too_big items

abbrev pub too_big : Option Item → Option PlanErr
too_big None = None
too_big (Some item) = Some (TooBig item.path item.facts.size)

-- the limit that items pass: more than 500000 decided entries of a side, the source's first, and then a file that is too
-- big, where copies have bytes
abbrev pub limit_of : Bool → List Item → Option PlanErr
limit_of with_bytes items =
    if nat_lt 500000 (count_by has_source items) then Some (TooMany Source 500001)
    else if nat_lt 500000 (count_by has_target items) then Some (TooMany Target 500001)
    else if with_bytes then too_big (first_too_big items)
    else None
