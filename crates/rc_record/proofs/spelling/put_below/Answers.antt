use Rattle.std.proofs.Common.{arith}
use Rattle.rc_record.proofs.Lengths.{behind_end}
use Rattle.rc_record.proofs.Pieces.{pieces_more, two_put}
use Rattle.rc_record.proofs.spelling.put_below.Goals as goal

pub loop-name-preserved : goal.loop-name-preserved
loop-name-preserved c =
    pieces_more behind_end c.args.names.now c.loop-name.name-index c.name-item.result _ _ _ (grind arith) c.name-item.is c.loop-name.invariant
    (two_put _ _ _ _ _ c.in_ok-put_byte.ensures c.in_ok-put_name.ensures)
