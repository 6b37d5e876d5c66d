-- What the calls that write a record make of it, and what a stop may leave of them.
use Rattle.std.specs.Prelude.{◌≡◌, ◌⊎◌, ℕ, ◌+◌, ◌<◌, Bool, true, false, List, [], ◌∷◌, ◌++◌, length, take, filter, replicate, slice_get, slice_set, IsSomeAnd, Some, None, Result, Ok, Err}
use Rattle.rc_class.specs.Units.{is_copy}
use Rattle.rc_class.specs.declared.noted.Noted.{Noted}
use Rattle.rc_class.specs.declared.plan.Plan.{Plan}
use Rattle.rc_volume.specs.Faults.{Cause}
use Rattle.rc_volume.specs.Frames.{ChangesNotes}
use Rattle.rc_volume.specs.Images.{AreOnlyNotes, MayLeaveNotes}
use Rattle.rc_volume.specs.Log.{Event, NotesCall, noted, notes_synced}
use Rattle.rc_volume.specs.Site.{Seen}
use Rattle.rc_volume.specs.declared.site.SiteErr.{SiteErr}
use Rattle.rc_record.specs.declared.marks.MarkPlace.{MarkPlace}
use Rattle.rc_record.specs.declared.marks.MarkPlace.TheVariants.{Finish, Last, Unit as UnitMark}
use Rattle.rc_record.specs.Grammar.{finish_marks, stands, unit_marks}
use Rattle.rc_record.specs.Moments.{EachNow}
use Rattle.rc_record.specs.Spelling.{closed_record, mark_count, record_of, IsAllowed, IsTyped}

-- Frames

-- the record changes, and neither tree
abbrev pub ChangesRecord : Bool → Cause → Seen → Seen → Type 0
ChangesRecord tells cause old new = ChangesNotes tells (λ _ _. Unit {0}) cause old new

-- a call may be in the log
abbrev pub LogsCall : NotesCall → List Event → List Event → Type 0
LogsCall call old new = (new ≡ old) ⊎ (new ≡ old ++ noted call ∷ [])

-- a call and a sync behind it are in the log; after an error at most the call
abbrev pub LogsStep : {T : Type 0} → Result T SiteErr → NotesCall → List ℕ → List Event → List Event → Type 0
LogsStep (Ok value) call notes old new = new ≡ old ++ (noted call ∷ (notes_synced notes ∷ []))
LogsStep (Err e) call notes old new = LogsCall call old new

-- What bytes stand for

-- the first byte is that of a gate that does not stand
abbrev pub BeginsClosed : List ℕ → Type 0
BeginsClosed notes = slice_get notes 0 ≡ Some 0

-- or of one that stands
abbrev pub BeginsOpen : List ℕ → Type 0
BeginsOpen notes = slice_get notes 0 ≡ Some 0xA5

abbrev pub StandsForNothing : List ℕ → Type 0
StandsForNothing notes = stands notes ≡ Ok None

abbrev pub StandsFor : Noted → List ℕ → Type 0
StandsFor note notes = stands notes ≡ Ok (Some note)

-- what is noted of a plan when no mark stands
abbrev pub unmarked : Plan → Noted
unmarked plan = record {
  plan = plan;
  units = replicate (unit_marks plan) false;
  finished = replicate (finish_marks plan) false;
  last = false;
}

-- the record reads so, and a stop leaves of it nothing else
pub record IsKept (notes : List ℕ) (seen : Seen) : Type 0 where
  pub reads : seen.told.notes ≡ notes
  pub only : AreOnlyNotes seen.log notes

-- what reads is among what a stop may leave
abbrev pub ReadsLeft : Seen → Type 0
ReadsLeft seen = MayLeaveNotes seen.log seen.told.notes

-- the record of a plan, closed and with no mark, as it is begun
pub record IsBegun (plan : Plan) (seen : Seen) : Type 0 where
  pub allowed : IsAllowed plan
  pub typed : IsTyped plan
  pub kept : IsKept (closed_record plan) seen

-- the open record of a plan, with any marks
pub record IsOpenOf (plan : Plan) (notes : List ℕ) : Type 0 where
  pub marks : List ℕ
  pub count : length marks ≡ mark_count plan
  pub is : notes ≡ record_of 0xA5 plan marks

-- and the plan is one that the grammar allows
pub record IsRecordOf (plan : Plan) (notes : List ℕ) : Type 0 where
  pub allowed : IsAllowed plan
  pub typed : IsTyped plan
  pub opened : IsOpenOf plan notes

-- a record in which a plan can be marked: what reads is an open one of it, and so is all that a stop may leave, of which
-- what reads is one
pub record IsOpened (plan : Plan) (seen : Seen) : Type 0 where
  pub typed : IsTyped plan
  pub reads : IsOpenOf plan seen.told.notes
  pub left : ReadsLeft seen
  pub each : EachNow seen.log (IsOpenOf plan)

-- Marks

-- a plan has what is to be marked: a unit with that number, a copied file in that place
abbrev pub HasPlace : Plan → MarkPlace → Type 0
HasPlace plan (UnitMark n) = n < unit_marks plan
HasPlace plan (Finish n) = IsSomeAnd (slice_get plan.items n) (λ item. is_copy item.act ≡ true)
HasPlace plan Last = Unit {0}

-- how many items are copied before that place
abbrev pub finishes_before : Plan → ℕ → ℕ
finishes_before plan n = length (filter (λ item. is_copy item.act) (take n plan.items))

-- the number of its mark among all of the plan
abbrev pub mark_number : Plan → MarkPlace → ℕ
mark_number plan (UnitMark n) = n
mark_number plan (Finish n) = unit_marks plan + finishes_before plan n
mark_number plan Last = unit_marks plan + finish_marks plan

-- one record of the plan became another: at one mark there is this byte, and all else is as it was
pub record IsMarkedBy (plan : Plan) (place : MarkPlace) (byte : ℕ) (old new : List ℕ) : Type 0 where
  pub marks : List ℕ
  pub count : length marks ≡ mark_count plan
  pub was : old ≡ record_of 0xA5 plan marks
  pub is : new ≡ record_of 0xA5 plan (slice_set marks (mark_number plan place) byte)

-- such a record, of what a stop might have left before, with any byte at the mark
pub record IsMarkedImage (plan : Plan) (place : MarkPlace) (log : List Event) (image : List ℕ) : Type 0 where
  pub before : List ℕ
  pub byte : ℕ
  pub left : MayLeaveNotes log before
  pub by : IsMarkedBy plan place byte before image

-- what is noted, with this one mark set
abbrev pub with_mark : MarkPlace → Bool → Noted → Noted
with_mark (UnitMark n) stood note = record note { units = slice_set note.units n stood }
with_mark (Finish n) stood note = record note { finished = slice_set note.finished (finishes_before note.plan n) stood }
with_mark Last stood note = record note { last = stood }

-- it stands for what something stands for that a stop might have left before, with the mark or without it
pub record StandsMarked (place : MarkPlace) (log : List Event) (image : List ℕ) : Type 0 where
  pub before : List ℕ
  pub note : Noted
  pub stood : Bool
  pub left : MayLeaveNotes log before
  pub was : StandsFor note before
  pub is : StandsFor (with_mark place stood note) image

-- Clearing

-- it stands for what something stands for that a stop might have left before
pub record StandsAsBefore (log : List Event) (image : List ℕ) : Type 0 where
  pub before : List ℕ
  pub left : MayLeaveNotes log before
  pub same : stands image ≡ stands before

-- the same, or for nothing
abbrev pub IsClearedImage : List Event → List ℕ → Type 0
IsClearedImage log image = StandsForNothing image ⊎ StandsAsBefore log image
