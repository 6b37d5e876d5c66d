-- What each event asks of a state, and what it does to it.
use Rattle.std.specs.Prelude.{◌≡◌, ◌⊎◌, ℕ, ◌+◌, ◌<◌, Bool, true, false, not, ◌&&◌, ◌==◌, nat_lt, nat_le, List, [], ◌∷◌, Option, None, Some, IfSome, IsSomeAnd, option_map, length, map, min, slice_get, Result, Ok, Err, if◌then◌else◌}
use Rattle.std.specs.List.{position}
use Rattle.std.specs.Str.{bytes_eq}
use Rattle.rc_tree.specs.Path.{key_of}
use Rattle.rc_tree.specs.Tree as rc
use Rattle.rc_volume.specs.Reading.{part_of}
use Rattle.rc_volume.specs.Site.{IsHalfResized, IsTorn, resized, written_at}
use Rattle.rc_core.specs.Images.{MayStop}
use Rattle.rc_core.specs.Nodes.{node_at, node_of}
use Rattle.rc_core.specs.Opened.{numbered}
use Rattle.rc_core.specs.Rows.{all_marked, all_synced, begun, end_of, end_size, file_by, file_number, file_row, has, holding_of, in_state, is_finished, is_free, is_given_up, is_marked, is_open, prepared, stands_in, synced, touch, unit_by, unit_row, with_file, with_unit}
use Rattle.rc_core.specs.declared.event.CoreErr.{CoreErr}
use Rattle.rc_core.specs.declared.event.CoreErr.TheVariants as core_err
use Rattle.rc_core.specs.declared.event.Event.{Event}
use Rattle.rc_core.specs.declared.event.Event.TheVariants as event
use Rattle.rc_core.specs.declared.event.What.{What}
use Rattle.rc_core.specs.declared.event.What.TheVariants as what
use Rattle.rc_core.specs.declared.node.Node.{Node}
use Rattle.rc_core.specs.declared.rows.Extent.{Extent}
use Rattle.rc_core.specs.declared.rows.FileRow.{FileRow}
use Rattle.rc_core.specs.declared.rows.FileState.{FileState}
use Rattle.rc_core.specs.declared.rows.FileState.TheVariants as file
use Rattle.rc_core.specs.declared.rows.Holding.{Holding}
use Rattle.rc_core.specs.declared.rows.UnitRow.{UnitRow}
use Rattle.rc_core.specs.declared.rows.UnitState.{UnitState}
use Rattle.rc_core.specs.declared.rows.UnitState.TheVariants as unit
use Rattle.rc_core.specs.declared.state.State.{State}

abbrev pub number_of : Event → ℕ
number_of (event.Claim unit) = 1
number_of (event.Put unit ticket bytes) = 2
number_of (event.Settle unit ticket) = 3
number_of (event.Mark unit ticket stood) = 4
number_of (event.Finish item stood) = 5
number_of (event.Fail what ticket booked left) = 6
number_of (event.Stop image units finished) = 7
number_of event.Rerun = 8

-- Looking up

-- a unit that is held, with its file
pub record Found : Type 0 where
  pub row : UnitRow
  pub holding : Holding
  pub file_of : FileRow

abbrev pub found_in : ℕ → UnitRow → Option Holding → Option FileRow → Option Found
found_in ticket row None file_of = None
found_in ticket row (Some holding) None = None
found_in ticket row (Some holding) (Some file_of) =
    if holding.ticket == ticket then Some (record { row = row; holding = holding; file_of = file_of }) else None

abbrev pub found_at : State → ℕ → Option UnitRow → Option Found
found_at state ticket None = None
found_at state ticket (Some row) = found_in ticket row (holding_of row.state) (file_row state row.extent.file)

-- the unit with a number, where it is held under the ticket
abbrev pub held_under : State → ℕ → ℕ → Option Found
held_under state n ticket = found_at state ticket (unit_row state n)

-- a file that only its finish is missing, with its number
pub record Closing : Type 0 where
  pub number : ℕ
  pub row : FileRow

abbrev pub closing_in : State → ℕ → Option FileRow → Option Closing
closing_in state n None = None
closing_in state n (Some row) = if all_marked state n && is_open row.state then Some (record { number = n; row = row }) else None

abbrev pub closing_at : State → Option ℕ → Option Closing
closing_at state None = None
closing_at state (Some n) = closing_in state n (file_row state n)

-- the open file of the item with a place in the plan, where its units are all marked
abbrev pub closing : State → ℕ → Option Closing
closing state place = closing_at state (file_number state place)

-- Conditions

-- a free unit of a file that is not given up
abbrev pub is_claimable : State → UnitRow → Bool
is_claimable state row = is_free row.state && has (λ file_of. not (is_given_up file_of.state)) (file_row state row.extent.file)

-- the least of them; the last ticket is not given
pub record MayClaim (state : State) (n : ℕ) : Type 0 where
  pub least : position (is_claimable state) state.units ≡ Some n
  pub ticket : state.next < 18446744073709551615

-- these bytes are those of the file's source from an offset on
abbrev pub is_of_source : ℕ → List ℕ → FileRow → Bool
is_of_source off bytes file_of = has (λ source. bytes_eq bytes (part_of off (length bytes) source.bytes)) file_of.file.source

-- bytes of the source that follow on and stay inside the unit
abbrev pub is_next_piece : List ℕ → UnitRow → Holding → FileRow → Bool
is_next_piece bytes row holding file_of =
    holding.prepared && (nat_le (holding.put + length bytes) row.extent.len && is_of_source (row.extent.off + holding.put) bytes file_of)

-- no bytes prepare the unit
abbrev pub is_piece : List ℕ → Found → Bool
is_piece [] found = true
is_piece (byte ∷ bytes) found = is_next_piece (byte ∷ bytes) found.row found.holding found.file_of

abbrev pub is_whole : Found → Bool
is_whole found = found.holding.prepared && (found.holding.put == found.row.extent.len)

-- What a failed attempt may leave of a file, by the calls that it still had to do

-- what stood, or the file there with a length on the way to its own
abbrev pub IsLeftUnprepared : ℕ → FileRow → Option rc.Node → Type 0
IsLeftUnprepared size row left = (left ≡ row.stands) ⊎ IsSomeAnd left (IsHalfResized size (begun row row.stands))

-- any bytes in the unit's range
abbrev pub IsLeftPrepared : Extent → FileRow → Option rc.Node → Type 0
IsLeftPrepared extent row left =
    (left ≡ row.stands) ⊎ IsSomeAnd row.stands (λ node. IsSomeAnd left (IsTorn extent.off extent.len node))

abbrev pub IsLeftOfUnit : Bool → Extent → FileRow → Option rc.Node → Type 0
IsLeftOfUnit false extent row left = IsLeftUnprepared row.file.item.facts.size row left
IsLeftOfUnit true extent row left = IsLeftPrepared extent row left

-- what stood, or the file on the way to its length, or all that it is to be
abbrev pub IsLeftOfFinish : Bool → Option rc.Node → FileRow → Option rc.Node → Type 0
IsLeftOfFinish with_bytes goal row left = IsLeftUnprepared (end_size with_bytes row) row left ⊎ (left ≡ goal)

-- a node that is left is one at the file's key
abbrev pub IsAtKey : FileRow → Option Node → Type 0
IsAtKey row left = IfSome left (λ node. key_of node.path ≡ key_of row.file.item.path)

abbrev pub MayFail : State → What → ℕ → Option Node → Type 0
MayFail state (what.Unit n) ticket left =
    IsSomeAnd (held_under state n ticket)
    (λ found. IsAtKey found.file_of left × IsLeftOfUnit found.holding.prepared found.row.extent found.file_of (option_map node_of left))
MayFail state (what.Finish place) ticket left =
    (ticket ≡ 0) × IsSomeAnd (closing state place) (λ found. IsAtKey found.row left × IsLeftOfFinish state.noted.plan.with_bytes (end_of state found.row) found.row (option_map node_of left))

-- What an event asks of a state that is not stopped
abbrev pub Asks : State → Event → Type 0
Asks state (event.Claim n) = MayClaim state n
Asks state (event.Put n ticket bytes) = IsSomeAnd (held_under state n ticket) (λ found. is_piece bytes found ≡ true)
Asks state (event.Settle n ticket) = IsSomeAnd (held_under state n ticket) (λ found. is_whole found ≡ true)
Asks state (event.Mark n ticket stood) = IsSomeAnd (held_under state n ticket) (λ found. found.holding.settled ≡ true)
Asks state (event.Finish item stood) = IsSomeAnd (closing state item) (λ found. Unit {0})
Asks state (event.Fail what ticket booked left) = MayFail state what ticket left
Asks state (event.Stop image units finished) = MayStop state image units finished
Asks state event.Rerun = ⊥

-- a stopped state allows a rerun alone
abbrev pub Allows : State → Event → Type 0
Allows state event.Rerun = state.stopped ≡ true
Allows state other = (state.stopped ≡ false) × Asks state other

-- Effects

-- an effect on what was looked up
abbrev pub where_some : {A : Type 0} → State → (A → State) → Option A → State
where_some state effect None = state
where_some state effect (Some a) = effect a

abbrev pub claimed : ℕ → Holding
claimed ticket = record { ticket = ticket; put = 0; prepared = false; settled = false }

abbrev pub claim : State → ℕ → UnitRow → State
claim state n row = record (with_unit n (in_state (unit.Held (claimed state.next)) row) state) { next = state.next + 1 }

-- the file is brought to its length
abbrev pub prepare_file : FileRow → FileRow
prepare_file row = touch (Some (begun row row.stands) ∷ []) [] (Some (prepared row)) row

-- bytes are put at an offset
abbrev pub put_bytes : ℕ → List ℕ → FileRow → FileRow
put_bytes off bytes row = touch [] ((off, length bytes) ∷ []) (option_map (written_at off bytes) row.stands) row

abbrev pub prepare_unit : State → ℕ → UnitRow → Holding → State
prepare_unit state n row holding =
    with_file row.extent.file prepare_file (with_unit n (in_state (unit.Held (record holding { prepared = true })) row) state)

abbrev pub put_piece : State → ℕ → List ℕ → UnitRow → Holding → State
put_piece state n bytes row holding =
    with_file row.extent.file (put_bytes (row.extent.off + holding.put) bytes)
    (with_unit n (in_state (unit.Held (record holding { put = holding.put + length bytes })) row) state)

abbrev pub put_unit : State → ℕ → List ℕ → Found → State
put_unit state n [] found = prepare_unit state n found.row found.holding
put_unit state n (byte ∷ bytes) found = put_piece state n (byte ∷ bytes) found.row found.holding

abbrev pub settle_unit : State → ℕ → UnitRow → Holding → State
settle_unit state n row holding = all_synced (with_unit n (in_state (unit.Held (record holding { settled = true })) row) state)

abbrev pub marked_as : Bool → UnitState
marked_as stood = if stood then unit.Marked else unit.Doubtful

-- one attempt more, where it is booked; the count stops at the greatest number of its type
abbrev pub with_attempt : Bool → ℕ → ℕ
with_attempt booked attempts = if booked then min (attempts + 1) 4294967295 else attempts

-- given up where all attempts are booked
abbrev pub given_up_at : ℕ → ℕ → FileState → FileState
given_up_at retries attempts now = if nat_lt retries attempts then file.GivenUp else now

-- what a failed attempt leaves of the file: this stands there, and all that it still had to do may be done
abbrev pub fail_file : Bool → Extent → Option rc.Node → FileRow → FileRow
fail_file false extent left row = touch (Some (begun row row.stands) ∷ Some (prepared row) ∷ []) [] left row
fail_file true extent left row = touch [] ((extent.off, extent.len) ∷ []) left row

-- and given up where all attempts are booked
abbrev pub failed_file : ℕ → ℕ → Bool → Extent → Option rc.Node → FileRow → FileRow
failed_file retries attempts is_prepared extent left row =
    record (fail_file is_prepared extent left row) { state = given_up_at retries attempts row.state }

-- the unit is free again
abbrev pub fail_unit : State → ℕ → Bool → Option rc.Node → UnitRow → Bool → State
fail_unit state n booked left row is_prepared =
    with_file row.extent.file (failed_file state.retries (with_attempt booked row.attempts) is_prepared row.extent left)
    (with_unit n (record row { state = unit.Free; attempts = with_attempt booked row.attempts }) state)

-- the file is open again
abbrev pub fail_finish : Bool → ℕ → Bool → Option rc.Node → Option rc.Node → FileRow → FileRow
fail_finish with_bytes retries booked left goal row =
    record (touch (Some (begun row row.stands) ∷ Some (resized (end_size with_bytes row) (begun row row.stands)) ∷ goal ∷ []) [] left row) {
      state = given_up_at retries (with_attempt booked row.attempts) row.state;
      attempts = with_attempt booked row.attempts;
    }

abbrev pub fail : State → What → ℕ → Bool → Option rc.Node → State
fail state (what.Unit n) ticket booked left =
    where_some state (λ found. fail_unit state n booked left found.row found.holding.prepared) (held_under state n ticket)
fail state (what.Finish place) ticket booked left =
    where_some state
    (λ found. with_file found.number (fail_finish state.noted.plan.with_bytes state.retries booked left (end_of state found.row)) state)
    (closing state place)

-- the file is as it is to be, and its mark stands or may stand
abbrev pub finished_as : Bool → FileState
finished_as stood = if stood then file.Finished else file.Doubtful

abbrev pub ended_file : Option rc.Node → Bool → FileRow → FileRow
ended_file goal stood row = record row { stands = goal; state = finished_as stood }

abbrev pub finish : State → Bool → Closing → State
finish state stood found = all_synced (with_file found.number (ended_file (end_of state found.row) stood) state)

-- what a stop leaves of a unit and of a file, by their marks
abbrev pub stopped_unit : UnitRow → Option Bool → UnitRow
stopped_unit row mark = in_state (unit_by (stands_in mark)) row

abbrev pub stopped_file : List Node → FileRow → Option Bool → FileRow
stopped_file image row mark = record (synced row) { stands = node_at image (key_of row.file.item.path); state = file_by (stands_in mark) }

abbrev pub stopped_units : List Bool → List UnitRow → List UnitRow
stopped_units marks rows = numbered (λ row n. stopped_unit row (slice_get marks n)) 0 rows

abbrev pub stopped_files : List Node → List Bool → List FileRow → List FileRow
stopped_files image marks rows = numbered (λ row n. stopped_file image row (slice_get marks n)) 0 rows

abbrev pub stop : State → List Node → List Bool → List Bool → State
stop state image units finished = record state {
  units = stopped_units units state.units;
  files = stopped_files image finished state.files;
  stopped = true;
}

-- what is marked is done, all else is free or open, and no attempt is booked
abbrev pub rerun_unit : UnitRow → UnitRow
rerun_unit row = record row { state = unit_by (is_marked row.state); attempts = 0 }

abbrev pub rerun_file : FileRow → FileRow
rerun_file row = record row { state = file_by (is_finished row.state); attempts = 0 }

abbrev pub rerun : State → State
rerun state = record state {
  units = map rerun_unit state.units;
  files = map rerun_file state.files;
  next = 1;
  stopped = false;
}

-- What an event does to a state that allows it
abbrev pub after : State → Event → State
after state (event.Claim n) = where_some state (claim state n) (unit_row state n)
after state (event.Put n ticket bytes) = where_some state (put_unit state n bytes) (held_under state n ticket)
after state (event.Settle n ticket) = where_some state (λ found. settle_unit state n found.row found.holding) (held_under state n ticket)
after state (event.Mark n ticket stood) = where_some state (λ found. with_unit n (in_state (marked_as stood) found.row) state) (held_under state n ticket)
after state (event.Finish item stood) = where_some state (finish state stood) (closing state item)
after state (event.Fail what ticket booked left) = fail state what ticket booked (option_map node_of left)
after state (event.Stop image units finished) = stop state image units finished
after state event.Rerun = rerun state

-- what an answer says of an event with a condition: where it holds the state goes on by the event, where it does not the
-- event is refused, and memory may be wanting; then all is as it was
abbrev pub Answers : {T : Type 0} → Type 0 → State → Event → Result T CoreErr → State → Type 0
Answers may state event (Ok done) new = may × (new ≡ after state event)
Answers may state event (Err (core_err.NotAllowed n)) new = (n ≡ number_of event) × (¬ may) × (new ≡ state)
Answers may state event (Err core_err.NoMemory) new = new ≡ state

abbrev pub Steps : {T : Type 0} → State → Event → Result T CoreErr → State → Type 0
Steps state event result new = Answers (Allows state event) state event result new

-- the same of a state that is not stopped
abbrev pub GoesOn : {T : Type 0} → State → Event → Result T CoreErr → State → Type 0
GoesOn state event result new = Answers (Asks state event) state event result new

-- a list of events, each where the state allows it
pub data Run : State → List Event → State → Type 0 where
  ends : (state : State) → Run state [] state
  steps : (state : State) (event : Event) (events : List Event) (new : State) → Allows state event → Run (after state event) events new → Run state (event ∷ events) new
