use Rattle.std.proofs.Common.{ℕ, ◌<◌}
use Rattle.rc_report.proofs.Found.{item_at}
use Rattle.rc_report.proofs.given.is_rising.Given as goal

abbrev pub invariant-loop-next : goal.invariant-loop-next
invariant-loop-next l = (k n : ℕ) → k < n → n < l.next → item_at l.failed k < item_at l.failed n
