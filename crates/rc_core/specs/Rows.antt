-- Words on the rows of a state.
use Rattle.std.specs.Prelude.{◌≡◌, ℕ, Bool, true, false, not, ◌||◌, ◌==◌, List, ◌∷◌, Option, None, Some, option_map, map, length, slice_get, slice_set, Result, Ok, Err, if◌then◌else◌}
use Rattle.std.specs.List.{list_all, position}
use Rattle.rc_tree.specs.Tree.{Node}
use Rattle.rc_tree.specs.Path.{last_name}
use Rattle.rc_class.specs.Units.{Range}
use Rattle.rc_volume.specs.Site.{fresh_file, resized}
use Rattle.rc_core.specs.Copies.{copy_goal}
use Rattle.rc_core.specs.Touched.{more_touched, untouched}
use Rattle.rc_core.specs.declared.rows.Extent.{Extent}
use Rattle.rc_core.specs.declared.rows.FileRow.{FileRow}
use Rattle.rc_core.specs.declared.rows.FileState.{FileState}
use Rattle.rc_core.specs.declared.rows.FileState.TheVariants as file
use Rattle.rc_core.specs.declared.rows.Holding.{Holding}
use Rattle.rc_core.specs.declared.rows.UnitRow.{UnitRow}
use Rattle.rc_core.specs.declared.rows.UnitState.{UnitState}
use Rattle.rc_core.specs.declared.rows.UnitState.TheVariants as unit
use Rattle.rc_core.specs.declared.state.State.{State}

-- there is one, and it passes
abbrev pub has : {A : Type 0} → (A → Bool) → Option A → Bool
has test None = false
has test (Some a) = test a

-- a mark is there, and stands
abbrev pub stands_in : Option Bool → Bool
stands_in mark = has (λ stands. stands) mark

-- what a call leaves: all that it does, or all as it was
abbrev pub Leaves : {T E A : Type 0} → Result T E → A → A → A → Type 0
Leaves (Ok done) old changed new = new ≡ changed
Leaves (Err e) old changed new = new ≡ old

-- Units

abbrev pub is_free : UnitState → Bool
is_free unit.Free = true
is_free _ = false

abbrev pub is_marked : UnitState → Bool
is_marked unit.Marked = true
is_marked _ = false

-- its mark stands or may stand
abbrev pub may_be_marked : UnitState → Bool
may_be_marked unit.Doubtful = true
may_be_marked unit.Marked = true
may_be_marked _ = false

-- what is held, where the unit is
abbrev pub holding_of : UnitState → Option Holding
holding_of (unit.Held holding) = Some holding
holding_of _ = None

-- its bytes are durable
abbrev pub is_settled : UnitState → Bool
is_settled unit.Doubtful = true
is_settled unit.Marked = true
is_settled (unit.Held holding) = holding.settled
is_settled unit.Free = false

abbrev pub range_of : Extent → Range
range_of extent = record { off = extent.off; len = extent.len }

abbrev pub in_state : UnitState → UnitRow → UnitRow
in_state now row = record row { state = now }

-- durable where its mark stands, and else free
abbrev pub unit_by : Bool → UnitState
unit_by stands = if stands then unit.Marked else unit.Free

-- Files

abbrev pub is_open : FileState → Bool
is_open file.Open = true
is_open _ = false

abbrev pub is_given_up : FileState → Bool
is_given_up file.GivenUp = true
is_given_up _ = false

-- its mark stands or may stand
abbrev pub is_done : FileState → Bool
is_done file.Doubtful = true
is_done file.Finished = true
is_done _ = false

abbrev pub is_finished : FileState → Bool
is_finished file.Finished = true
is_finished _ = false

-- as it is to be where its mark stands, and else open
abbrev pub file_by : Bool → FileState
file_by stands = if stands then file.Finished else file.Open

-- the file that stands, or one as it is made
abbrev pub begun : FileRow → Option Node → Node
begun row None = fresh_file (last_name row.file.item.path)
begun row (Some node) = node

-- what stands once the file is there at its length
abbrev pub prepared : FileRow → Node
prepared row = resized row.file.item.facts.size (begun row row.stands)

-- all that stands there, or stood since the last sync
abbrev pub all_had : FileRow → List (Option Node)
all_had row = row.stands ∷ row.touched.had

-- this stands at the file's key now; it had what it had, and these; and these ranges were put
abbrev pub touch : List (Option Node) → List (ℕ × ℕ) → Option Node → FileRow → FileRow
touch had puts now row = record row { stands = now; touched = more_touched (row.stands ∷ had) puts row.touched }

-- the target is durable: of the file there is what stands
abbrev pub synced : FileRow → FileRow
synced row = record row { touched = untouched }

-- States

abbrev pub unit_row : State → ℕ → Option UnitRow
unit_row state n = slice_get state.units n

abbrev pub file_row : State → ℕ → Option FileRow
file_row state n = slice_get state.files n

-- the number of the file whose item has a place in the plan
abbrev pub file_number : State → ℕ → Option ℕ
file_number state place = position (λ row. row.file.place == place) state.files

-- the units of a file are all marked
abbrev pub all_marked : State → ℕ → Bool
all_marked state n = list_all (λ row. not (row.extent.file == n) || is_marked row.state) state.units

-- what the target has at the file's key in the end
abbrev pub end_of : State → FileRow → Option Node
end_of state row = copy_goal state.rules state.noted.plan row.file.item row.file.source row.file.start

-- the length that it has in the end: the source's where bytes go along, and else its own
abbrev pub end_size : Bool → FileRow → ℕ
end_size with_bytes row = if with_bytes then row.file.item.facts.size else length (begun row row.stands).bytes

-- the element with a number changed, and the others as they were
abbrev pub with_at : {A : Type 0} → List A → ℕ → Option A → List A
with_at xs n None = xs
with_at xs n (Some x) = slice_set xs n x

abbrev pub changed_at : {A : Type 0} → ℕ → (A → A) → List A → List A
changed_at n change xs = with_at xs n (option_map change (slice_get xs n))

abbrev pub with_unit : ℕ → UnitRow → State → State
with_unit n row state = record state { units = slice_set state.units n row }

abbrev pub with_file : ℕ → (FileRow → FileRow) → State → State
with_file n change state = record state { files = changed_at n change state.files }

abbrev pub all_synced : State → State
all_synced state = record state { files = map synced state.files }
