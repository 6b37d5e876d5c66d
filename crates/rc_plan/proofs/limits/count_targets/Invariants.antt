use Rattle.std.proofs.Common.{◌≡◌, take}
use Rattle.std.specs.List.{count_by}
use Rattle.rc_plan.specs.Limits.{has_target}
use Rattle.rc_plan.proofs.limits.count_targets.Given as goal

abbrev pub invariant-loop-item : goal.invariant-loop-item
invariant-loop-item l = l.count ≡ count_by has_target (take l.item-index l.items)
