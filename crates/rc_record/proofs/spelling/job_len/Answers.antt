use Rattle.std.proofs.Common.{length, ap, arith}
use Rattle.rc_record.proofs.Lengths.{spelled}
use Rattle.rc_record.proofs.spelling.job_len.Goals as goal

pub overflow_cast-result : goal.overflow_cast-result
overflow_cast-result c = omega (arith, ap length (spelled c.text.result.now c.args.plan.now.job c.text.utf8 c.text.ensures), c.requires.allowed.text)

pub returns : goal.returns
returns c = ap length (spelled c.text.result.now c.args.plan.now.job c.text.utf8 c.text.ensures)
