use Rattle.std.proofs.Common.{ℕ, ◌-◌, ◌<◌, ◌≤◌, length, get_or}
use Rattle.rc_report.specs.Given.{none}
use Rattle.rc_report.proofs.given.is_found.Given as goal

abbrev pub invariant-halves : goal.invariant-halves
invariant-halves l = record {
  order : l.low ≤ l.high;
  within : l.high ≤ length l.failed;
  before : (k : ℕ) → k < l.low → (get_or l.failed k none).item < l.place;
  behind : (k : ℕ) → l.high ≤ k → k < length l.failed → l.place < (get_or l.failed k none).item;
}

abbrev pub decreases-halves : goal.decreases-halves
decreases-halves l = l.high - l.low
