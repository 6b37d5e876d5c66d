-- A drill over streams whose bytes no contract knows.
use Rattle.std.specs.Prelude.{◌≡◌, ◌⊎◌, ℕ, ◌≤◌, Bool, true, false, List, Option, length, take, Result, Ok, Err}
use Rattle.std.specs.Io.KnownBytes.{Appends}
use Rattle.rc_volume.specs.Faults.{RoseBy}
use Rattle.drill.specs.Drilling.{Drills}

-- what a writer holds after a call that failed: known bytes grow by a front of these
abbrev pub AppendsFrontOf : Option (List ℕ) → Option (List ℕ) → List ℕ → Type 0
AppendsFrontOf old new bytes = (n : ℕ) × (n ≤ length bytes) × Appends old new (take n bytes)

abbrev pub has_failed : {T E : Type 0} → Result T E → Bool
has_failed (Ok value) = false
has_failed (Err e) = true

-- the status of a drill of some text into some output; and 16 where the output's end failed, which raises its count
pub record DrillsStreams (input_failed : Type 0) (before now : ℕ) (args : List (List ℕ)) (status : ℕ) : Type 0 where
  pub text : List ℕ
  pub old : List ℕ
  pub new : List ℕ
  pub drilled : ℕ
  pub at_end : ℕ
  pub drills : Drills input_failed (RoseBy 1 before at_end) args text old new drilled
  pub ended : ((status ≡ drilled) × (now ≡ at_end)) ⊎ (RoseBy 1 at_end now × (status ≡ 16))
