use Rattle.std.proofs.Common.{◌≡◌, ◌++◌, take}
use Rattle.std.specs.Prelude.{All}
use Rattle.std.specs.List.{flat_map}
use Rattle.rc_record.specs.Spelling.{item_bytes, IsItemTyped}
use Rattle.rc_record.proofs.spelling.put_items.Given as goal

abbrev pub invariant-loop-item : goal.invariant-loop-item
invariant-loop-item l = record {
  written : l.bytes.items ≡ l.initial.bytes.items ++ flat_map item_bytes (take l.item-index l.items);
  typed : All IsItemTyped (take l.item-index l.items);
}
