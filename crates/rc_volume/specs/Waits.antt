-- How a clock waits: of each pause its seconds, and behind which failures of a site it came.
use Rattle.std.specs.Prelude.{◌≡◌, ℕ, zero, suc, ◌+◌, min}
use Rattle.rc_volume.specs.declared.site.Part.{Part}
use Rattle.rc_volume.specs.declared.site.Part.TheVariants as part
use Rattle.rc_volume.specs.declared.site.Side.{Side}
use Rattle.rc_volume.specs.declared.site.Side.TheVariants as side
use Rattle.rc_volume.specs.Faults.{Cause, RoseBy, last_count, on, part_for}

-- how often a clock paused, and how many seconds in all; both stop at the greatest number of their type
pub record Paused : Type 0 where
  pub times : ℕ
  pub seconds : ℕ

-- once more, for so many seconds
abbrev pub paused_once : ℕ → Paused → Paused
paused_once seconds paused = record {
  times = min (paused.times + 1) last_count;
  seconds = min (paused.seconds + seconds) last_count;
}

-- so many times more, for so many seconds each
abbrev pub paused_by : ℕ → ℕ → Paused → Paused
paused_by seconds zero paused = paused
paused_by seconds (suc times) paused = paused_once seconds (paused_by seconds times paused)

-- 1 where this answer is a fault of that part, and 0 elsewhere
abbrev pub last_fault : Cause → Part → ℕ
last_fault (on part.Source n) part.Source = 1
last_fault (on part.Target n) part.Target = 1
last_fault (on part.Record n) part.Record = 1
last_fault cause part = 0

-- pauses of so many seconds: on each side as many as calls of its failed, one fewer where the last of them is answered
pub record Waits (seconds : ℕ) (cause : Cause) (before after : Part → ℕ) (old new : Paused) : Type 0 where
  pub times : Side → ℕ
  pub failed : (side : Side) → RoseBy (times side + last_fault cause (part_for side)) (before (part_for side)) (after (part_for side))
  pub is : new ≡ paused_by seconds (times side.Source + times side.Target) old
