use Rattle.std.proofs.Common.{arith}
use Rattle.rc_record.proofs.Counts.{copies_few}
use Rattle.rc_record.proofs.marks.mark_off.Goals as goal

pub overflow_add-result-2 : goal.overflow_add-result-2
overflow_add-result-2 c =
    omega (arith, c.plan_len.ensures.bound, c.mark_number.ensures.within, c.requires.allowed.units, c.requires.allowed.count, copies_few c.args.plan.now.items)
