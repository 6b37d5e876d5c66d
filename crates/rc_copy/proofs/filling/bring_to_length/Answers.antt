use Rattle.rc_copy.proofs.NodeLemmas.{resize_failed}
use Rattle.rc_copy.proofs.filling.bring_to_length.Goals as goal

pub returns-in-Err-clause-brought : goal.returns-in-Err-clause-brought
returns-in-Err-clause-brought g c = λ tells. resize_failed (Unit {0}) c.in-Err.e c.args.len _ _ _ (c.requires.stands tells) (c.in-Err.ensures.frame.here tells)
