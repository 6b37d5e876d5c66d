-- The state with which copying begins.
use Rattle.std.specs.Prelude.{ℕ, ◌+◌, Bool, false, List, [], ◌∷◌, ◌++◌, Option, map, slice_get, if◌then◌else◌}
use Rattle.rc_tree.specs.Path.{key_of}
use Rattle.rc_class.specs.declared.item.Item.{Item}
use Rattle.rc_class.specs.declared.noted.Noted.{Noted}
use Rattle.rc_class.specs.declared.plan.Plan.{Plan}
use Rattle.rc_class.specs.declared.rules.Rules.{Rules}
use Rattle.rc_class.specs.Units.{Unit, is_copy, item_units}
use Rattle.rc_core.specs.Follows.{Opening}
use Rattle.rc_core.specs.Nodes.{node_at, tree_of}
use Rattle.rc_core.specs.Rows.{file_by, stands_in, unit_by}
use Rattle.rc_core.specs.Touched.{untouched}
use Rattle.rc_core.specs.declared.node.Node.{Node}
use Rattle.rc_core.specs.declared.rows.Copied.{Copied}
use Rattle.rc_core.specs.declared.rows.Extent.{Extent}
use Rattle.rc_core.specs.declared.rows.FileRow.{FileRow}
use Rattle.rc_core.specs.declared.rows.UnitRow.{UnitRow}
use Rattle.rc_core.specs.declared.state.State.{State}

abbrev pub copied_of : List Node → List Node → Item → ℕ → Copied
copied_of source target item place = record {
  place = place;
  item = item;
  source = node_at source (key_of item.path);
  start = node_at target (key_of item.path);
}

-- the files of the items that are copied, the first of which has this place in the plan
abbrev pub copied_from : List Node → List Node → ℕ → List Item → List Copied
copied_from source target place [] = []
copied_from source target place (item ∷ items) =
    if is_copy item.act then copied_of source target item place ∷ copied_from source target (place + 1) items
    else copied_from source target (place + 1) items

abbrev pub extent_of : ℕ → Unit → Extent
extent_of n unit_of = record { file = n; off = unit_of.range.off; len = unit_of.range.len }

-- the units of files, the first of which has this number
abbrev pub extents_from : Plan → ℕ → List Copied → List Extent
extents_from plan n [] = []
extents_from plan n (copied ∷ later) = map (extent_of n) (item_units plan.stride plan.with_bytes copied.item) ++ extents_from plan (n + 1) later

-- the files and the units of a plan
abbrev pub files_of : Plan → List Node → List Node → List Copied
files_of plan source target = copied_from source target 0 plan.items

abbrev pub extents_of : Plan → List Node → List Node → List Extent
extents_of plan source target = extents_from plan 0 (files_of plan source target)

-- each element by its number, from n on
abbrev pub numbered : {A B : Type 0} → (A → ℕ → B) → ℕ → List A → List B
numbered row n [] = []
numbered row n (x ∷ xs) = row x n ∷ numbered row (n + 1) xs

-- what is marked is done, and all else is open or free

abbrev pub opened_file : Copied → Option Bool → FileRow
opened_file copied mark = record {
  file = copied;
  stands = copied.start;
  touched = untouched;
  state = file_by (stands_in mark);
  attempts = 0;
}

abbrev pub opened_unit : Extent → Option Bool → UnitRow
opened_unit extent mark = record { extent = extent; state = unit_by (stands_in mark); attempts = 0 }

abbrev pub opened_files : List Bool → List Copied → List FileRow
opened_files marks copied = numbered (λ file n. opened_file file (slice_get marks n)) 0 copied

-- the row of an item with a place in the plan, where it is copied, behind so many rows
abbrev pub opened_item : List Bool → List Node → List Node → ℕ → Item → ℕ → List FileRow
opened_item marks source target n item place =
    if is_copy item.act then opened_file (copied_of source target item place) (slice_get marks n) ∷ [] else []

abbrev pub opened_units : List Bool → List Extent → List UnitRow
opened_units marks extents = numbered (λ extent n. opened_unit extent (slice_get marks n)) 0 extents

abbrev pub opened : Noted → Rules → List Node → List Node → ℕ → State
opened noted rules source target retries = record {
  noted = noted;
  rules = rules;
  source = source;
  target = target;
  retries = retries;
  files = opened_files noted.finished (files_of noted.plan source target);
  units = opened_units noted.units (extents_of noted.plan source target);
  next = 1;
  stopped = false;
}

-- what a state began on
abbrev pub opening_by : Noted → Rules → List Node → List Node → Opening
opening_by noted rules source target =
    record { rules = rules; image = record { noted = noted; source = tree_of source; target = tree_of target } }

abbrev pub opening_of : State → Opening
opening_of state = opening_by state.noted state.rules state.source state.target
