-- What holds of every state that is reached: enough for each image that a stop may leave to follow the opening.
use Rattle.std.specs.Prelude.{◌≡◌, ◌⊎◌, ℕ, ◌+◌, ◌<◌, ◌≤◌, true, false, All, [], Option, Some, IfSome, option_map, slice_get}
use Rattle.rc_tree.specs.Tree.{Node}
use Rattle.rc_class.specs.Units.{Range}
use Rattle.rc_core.specs.Copies.{Holds, IsMarked, IsOnWay}
use Rattle.rc_core.specs.Follows.{IsOpen}
use Rattle.rc_core.specs.Nodes.{are_rising}
use Rattle.rc_core.specs.Opened.{extents_of, files_of, opened, opening_of}
use Rattle.rc_core.specs.Rows.{all_had, end_of, file_row, holding_of, is_done, is_finished, is_marked, is_settled, range_of, unit_row}
use Rattle.rc_core.specs.declared.rows.Extent.{Extent}
use Rattle.rc_core.specs.declared.rows.FileRow.{FileRow}
use Rattle.rc_core.specs.declared.rows.Holding.{Holding}
use Rattle.rc_core.specs.declared.rows.UnitRow.{UnitRow}
use Rattle.rc_core.specs.declared.state.State.{State}

-- Beginnings

-- a state with which copying begins, on lists in the order of keys
pub record IsFirst (state : State) : Type 0 where
  pub begun : state ≡ opened state.noted state.rules state.source state.target state.retries
  pub is_open : IsOpen (opening_of state)
  pub source_rising : are_rising state.source ≡ true
  pub target_rising : are_rising state.target ≡ true

-- The rows are those of an opening

pub record IsLaidOut (state : State) : Type 0 where
  pub is_open : IsOpen (opening_of state)
  pub source_rising : are_rising state.source ≡ true
  pub target_rising : are_rising state.target ≡ true
  pub files : (n : ℕ) → option_map (λ row. row.file) (file_row state n) ≡ slice_get (files_of state.noted.plan state.source state.target) n
  pub units : (n : ℕ) → option_map (λ row. row.extent) (unit_row state n) ≡ slice_get (extents_of state.noted.plan state.source state.target) n

-- Files

-- the units of a file are all marked
abbrev pub AreAllMarked : State → ℕ → Type 0
AreAllMarked state n = (m : ℕ) (row : UnitRow) → unit_row state m ≡ Some row → row.extent.file ≡ n → is_marked row.state ≡ true

-- all that a file had since the last sync is on its way; where its mark stands or may stand all of it is the end, no bytes
-- were put, and its units are marked
pub record IsSoundFile (state : State) (n : ℕ) (row : FileRow) : Type 0 where
  pub ways : All (IsOnWay state.rules state.noted.plan row.file.item row.file.source row.file.start) (all_had row)
  pub ended : is_done row.state ≡ true → All (λ had. had ≡ end_of state row) (all_had row)
  pub unput : is_done row.state ≡ true → row.touched.puts ≡ []
  pub closed : is_done row.state ≡ true → AreAllMarked state n
  pub bytes_stay : state.noted.plan.with_bytes ≡ false → row.touched.puts ≡ []

-- Units

abbrev pub IsApart : Extent → ℕ × ℕ → Type 0
IsApart extent range = (extent.off + extent.len ≤ range.0) ⊎ (range.0 + range.1 ≤ extent.off)

-- the front of a unit that is put
abbrev pub front_of : Extent → ℕ → Range
front_of extent put = record { off = extent.off; len = put }

-- what a held unit put is the source's and stands in the target, at its length
pub record IsSoundHolding (extent : Extent) (source stands : Option Node) (holding : Holding) : Type 0 where
  pub inside : holding.put ≤ extent.len
  pub unprepared : holding.prepared ≡ false → holding.put ≡ 0
  pub stood : holding.prepared ≡ true → Holds (front_of extent holding.put) source stands
  pub settled : holding.settled ≡ true → (holding.prepared ≡ true) × (holding.put ≡ extent.len)

-- all that the file of a unit with durable bytes had since the last sync has these bytes, and none were put on them
pub record IsSoundUnit (row : UnitRow) (file_of : FileRow) : Type 0 where
  pub held : is_settled row.state ≡ true → All (Holds (range_of row.extent) file_of.file.source) (all_had file_of)
  pub apart : is_settled row.state ≡ true → All (IsApart row.extent) file_of.touched.puts
  pub holding : IfSome (holding_of row.state) (IsSoundHolding row.extent file_of.file.source file_of.stands)

-- States

pub record Sound (state : State) : Type 0 where
  pub laid_out : IsLaidOut state
  pub files : (n : ℕ) (row : FileRow) → file_row state n ≡ Some row → IsSoundFile state n row
  pub units : (n : ℕ) (row : UnitRow) (file_of : FileRow) → unit_row state n ≡ Some row → file_row state row.extent.file ≡ Some file_of → IsSoundUnit row file_of
  -- what was marked stays so
  pub marked : (n : ℕ) (row : UnitRow) → unit_row state n ≡ Some row → IsMarked state.noted.units n → is_marked row.state ≡ true
  pub finished : (n : ℕ) (row : FileRow) → file_row state n ≡ Some row → IsMarked state.noted.finished n → is_finished row.state ≡ true
  -- what is held was claimed under an earlier ticket, no two units under one
  pub next : 0 < state.next
  pub tickets : (n : ℕ) (row : UnitRow) (holding : Holding) → unit_row state n ≡ Some row → holding_of row.state ≡ Some holding → (0 < holding.ticket) × (holding.ticket < state.next)
  pub apart : (n m : ℕ) (row other : UnitRow) (one two : Holding) → unit_row state n ≡ Some row → unit_row state m ≡ Some other →
      holding_of row.state ≡ Some one → holding_of other.state ≡ Some two → one.ticket ≡ two.ticket → n ≡ m
