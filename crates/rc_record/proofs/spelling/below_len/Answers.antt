use Rattle.std.proofs.Common.{None, true, arith}
use Rattle.std.specs.Str.{all_scalars}
use Rattle.rc_tree.specs.Name.{name_fault}
use Rattle.std.proofs.Common.{◌≡◌}
use Rattle.rc_record.proofs.Lengths.{behind_end}
use Rattle.rc_record.proofs.Pieces.{all_more, pieces_len}
use Rattle.rc_record.proofs.spelling.below_len.Goals as goal

pub loop-name-preserved : goal.loop-name-preserved
loop-name-preserved c = record {
  counted = omega (arith, c.loop-name.invariant.counted, c.name_len.ensures.len, pieces_len behind_end c.args.names.now c.loop-name.name-index c.name-item.result (grind arith) c.name-item.is);
  bound = omega (arith, c.loop-name.invariant.bound, c.name_len.ensures.bound);
  named = all_more (λ name. name_fault name ≡ None) c.args.names.now c.loop-name.name-index c.name-item.result (grind arith) c.name-item.is c.loop-name.invariant.named c.name_len.ensures.named;
  characters = all_more (λ name. all_scalars name ≡ true) c.args.names.now c.loop-name.name-index c.name-item.result (grind arith) c.name-item.is c.loop-name.invariant.characters c.name_len.ensures.characters;
}
