use Rattle.rc_copy.proofs.NodeLemmas.{put_failed}
use Rattle.rc_copy.proofs.filling.put_piece.Goals as goal

pub returns-in-Err-clause-put : goal.returns-in-Err-clause-put
returns-in-Err-clause-put g c = λ tells. put_failed (Unit {0}) c.in-Err.e c.args.off c.args.piece.now _ _ _ (c.requires.within tells) (c.in-Err.ensures.frame.here tells)
