-- What a stop may leave of the record, now and since a moment.
use Rattle.std.specs.Prelude.{◌≡◌, ℕ, ◌≤◌, List, ◌++◌, length, take}
use Rattle.rc_volume.specs.Images.{MayLeaveNotes}
use Rattle.rc_volume.specs.Log.{Event}

-- a moment is how many events there were; a stop at one of them, no earlier than this, might have left these bytes
pub record AreNotesSince (log : List Event) (start : ℕ) (image : List ℕ) : Type 0 where
  pub moment : ℕ
  pub later : start ≤ moment
  pub passed : moment ≤ length log
  pub left : MayLeaveNotes (take moment log) image

-- this holds of all that a stop now may leave
abbrev pub EachNow : List Event → (List ℕ → Type 0) → Type 0
EachNow log holds = (image : List ℕ) → MayLeaveNotes log image → holds image

-- and of all that a stop might have left since a moment
abbrev pub EachSince : List Event → ℕ → (List ℕ → Type 0) → Type 0
EachSince log start holds = (image : List ℕ) → AreNotesSince log start image → holds image

-- events came behind those of before
abbrev pub Grows : List Event → List Event → Type 0
Grows old new = (later : List Event) × (new ≡ old ++ later)
