use Rattle.std.proofs.Common.{◌≡◌, ◌≤◌, ◌*◌, length, take}
use Rattle.std.specs.List.{flat_map}
use Rattle.rc_record.specs.Spelling.{item_bytes}
use Rattle.rc_record.proofs.spelling.items_len.Given as goal

abbrev pub invariant-loop-item : goal.invariant-loop-item
invariant-loop-item l = record {
  counted : l.len ≡ length (flat_map item_bytes (take l.item-index l.items));
  bound : l.len ≤ 65562 * l.item-index;
}
