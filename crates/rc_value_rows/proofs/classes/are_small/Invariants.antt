use Rattle.std.proofs.Common.{◌≡◌, ◌≤◌, ◌^◌, All, true, take}
use Rattle.rc_class.specs.Units.{is_copy}
use Rattle.rc_value_rows.proofs.classes.are_small.Given as goal

abbrev pub invariant-loop-item : goal.invariant-loop-item
invariant-loop-item l = All (λ item. is_copy item.act ≡ true → item.facts.size ≤ 2 ^ 40) (take l.item-index l.items)
