use Rattle.std.proofs.Common.{◌≡◌, ◌≤◌, ◌*◌, ◌^◌, length, take}
use Rattle.std.specs.List.{flat_map}
use Rattle.rc_class.specs.Units.{item_units}
use Rattle.rc_class.proofs.plan.unit_count.Given as goal

abbrev pub invariant-loop-item : goal.invariant-loop-item
invariant-loop-item l = record {
  counted : l.count ≡ length (flat_map (item_units l.plan.stride l.plan.with_bytes) (take l.item-index l.plan.items));
  bound : l.count ≤ l.item-index * 2 ^ 20;
}
