use Rattle.std.proofs.Common.{◌≡◌, ◌≤◌, length, filter, take}
use Rattle.rc_class.specs.Units.{is_copy}
use Rattle.rc_record.proofs.noted.count_copies.Given as goal

abbrev pub invariant-loop-item : goal.invariant-loop-item
invariant-loop-item l = record {
  counted : l.count ≡ length (filter (λ item. is_copy item.act) (take l.item-index l.items));
  bound : l.count ≤ l.item-index;
}
