-- What is read of the files that are copied.
use Rattle.std.specs.Prelude.{ℕ, ◌+◌, ◌==◌, Bool, ◌&&◌, List, [], ◌∷◌, map, flat_map, filter, nat_lt, if◌then◌else◌}
use Rattle.rc_class.specs.declared.item.Item.{Item}
use Rattle.rc_class.specs.Units.{Range, Unit as FileUnit, is_copy, item_units}
use Rattle.rc_volume.specs.declared.want.Want.{Want}

-- Files in units

-- a range before others, joined to the first of them where they adjoin
abbrev pub joined_to : Range → List (ℕ × ℕ) → List (ℕ × ℕ)
joined_to range [] = (range.off, range.len) ∷ []
joined_to range (next ∷ more) =
    if range.off + range.len == next.0
    then (range.off, range.len + next.1) ∷ more
    else (range.off, range.len) ∷ next ∷ more

-- the ranges of units, those that adjoin as one
abbrev pub joined : List FileUnit → List (ℕ × ℕ)
joined [] = []
joined (unit ∷ units) = joined_to unit.range (joined units)

-- what is read of a file that is to be read in these units
abbrev pub wants_in : List (List ℕ) → List FileUnit → List Want
wants_in path [] = []
wants_in path (unit ∷ units) = record { path = path; ranges = joined (unit ∷ units) } ∷ []

-- what is read for these items
abbrev pub wants_of : ℕ → Bool → List Item → List Want
wants_of stride with_bytes items = flat_map (λ item. wants_in item.path (item_units stride with_bytes item)) items

-- Files that are one unit each

-- whether bytes are read for an item: a file that has some is copied with its bytes
abbrev pub is_read : Bool → Item → Bool
is_read with_bytes item = with_bytes && (is_copy item.act && nat_lt 0 item.facts.size)

-- all bytes of a file
abbrev pub whole_file : Item → Want
whole_file item = record { path = item.path; ranges = (0, item.facts.size) ∷ [] }

-- the files that are read for these items
abbrev pub whole_files : Bool → List Item → List Want
whole_files with_bytes items = map whole_file (filter (is_read with_bytes) items)
