use Rattle.std.proofs.Common.{◌≡◌, drop}
use Rattle.rc_plan.specs.Limits.{first_too_big}
use Rattle.rc_plan.proofs.limits.first_too_big.Given as goal

abbrev pub invariant-loop-item : goal.invariant-loop-item
invariant-loop-item l = first_too_big l.items ≡ first_too_big (drop l.item-index l.items)
