-- What a stop may leave of a state: an image of the target, and marks.
use Rattle.std.specs.Prelude.{◌≡◌, ◌≢◌, ℕ, Bool, true, List, Option, Some, IsSomeAnd, length, slice_get}
use Rattle.rc_tree.specs.Path.{key_of}
use Rattle.rc_core.specs.Follows.{Image}
use Rattle.rc_core.specs.Nodes.{are_rising, node_at, tree_of}
use Rattle.rc_core.specs.Rows.{all_had, is_done, is_finished, is_marked, may_be_marked}
use Rattle.rc_core.specs.Stops.{MayBeLeft}
use Rattle.rc_core.specs.declared.node.Node.{Node}
use Rattle.rc_core.specs.declared.rows.FileRow.{FileRow}
use Rattle.rc_core.specs.declared.rows.UnitRow.{UnitRow}
use Rattle.rc_core.specs.declared.state.State.{State}

-- a mark is there where it stands, and perhaps where it may stand
abbrev pub IsMarkOf : Bool → Bool → Option Bool → Type 0
IsMarkOf stands may mark = IsSomeAnd mark (λ is. (stands ≡ true → is ≡ true) × (is ≡ true → may ≡ true))

-- marks of units, and of files, in the order of their rows
abbrev pub AreUnitMarks : List UnitRow → List Bool → Type 0
AreUnitMarks rows marks = (n : ℕ) (row : UnitRow) → slice_get rows n ≡ Some row → IsMarkOf (is_marked row.state) (may_be_marked row.state) (slice_get marks n)

abbrev pub AreFileMarks : List FileRow → List Bool → Type 0
AreFileMarks rows marks = (n : ℕ) (row : FileRow) → slice_get rows n ≡ Some row → IsMarkOf (is_finished row.state) (is_done row.state) (slice_get marks n)

pub record AreMarks (state : State) (units finished : List Bool) : Type 0 where
  pub of_units : AreUnitMarks state.units units
  pub of_files : AreFileMarks state.files finished
  pub unit_count : length units ≡ length state.units
  pub file_count : length finished ≡ length state.files

-- at the key of each copied file an image has what its row allows
abbrev pub LeavesFiles : List FileRow → List Node → Type 0
LeavesFiles files image =
    (n : ℕ) (row : FileRow) → slice_get files n ≡ Some row → MayBeLeft (all_had row) row.touched.puts (node_at image (key_of row.file.item.path))

-- and at a key of none what the target had
abbrev pub IsOther : List FileRow → List (List ℕ) → Type 0
IsOther files key = (n : ℕ) (row : FileRow) → slice_get files n ≡ Some row → key_of row.file.item.path ≢ key

abbrev pub LeavesAt : List FileRow → List Node → List Node → List (List ℕ) → Type 0
LeavesAt files target image key = IsOther files key → node_at image key ≡ node_at target key

pub record MayStop (state : State) (image : List Node) (units finished : List Bool) : Type 0 where
  pub rising : are_rising image ≡ true
  pub files : LeavesFiles state.files image
  pub others : (key : List (List ℕ)) → LeavesAt state.files state.target image key
  pub marks : AreMarks state units finished

-- the image with its marks
abbrev pub image_of : State → List Node → List Bool → List Bool → Image
image_of state image units finished =
    record { noted = record state.noted { units = units; finished = finished }; source = tree_of state.source; target = tree_of image }
