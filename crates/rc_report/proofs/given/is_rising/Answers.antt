use Rattle.std.proofs.Common.{arith}
use Rattle.rc_report.proofs.Found.{rising_more}
use Rattle.rc_report.proofs.given.is_rising.Goals as goal

pub loop-next-preserved : goal.loop-next-preserved
loop-next-preserved c = rising_more c.args.failed.now c.loop-next.next (omega arith) c.loop-next.invariant (omega arith)

pub returns-clause-sure : goal.returns-clause-sure
returns-clause-sure c = λ e k n lt l. c.loop-next.invariant k n lt (omega arith)
