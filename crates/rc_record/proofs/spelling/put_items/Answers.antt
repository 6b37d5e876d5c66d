use Rattle.std.proofs.Common.{arith}
use Rattle.rc_record.specs.Spelling.{item_bytes, IsItemTyped}
use Rattle.rc_record.proofs.Pieces.{all_more, pieces_more}
use Rattle.rc_record.proofs.spelling.put_items.Goals as goal

pub loop-item-preserved : goal.loop-item-preserved
loop-item-preserved c = record {
  written = pieces_more item_bytes c.args.items.now c.loop-item.item-index c.item-item.result _ _ _ (grind arith) c.item-item.is c.loop-item.invariant.written c.in_ok-put_item.ensures.item;
  typed = all_more IsItemTyped c.args.items.now c.loop-item.item-index c.item-item.result (grind arith) c.item-item.is c.loop-item.invariant.typed c.in_ok-put_item.ensures.typed;
}
