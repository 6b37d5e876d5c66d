use Rattle.std.proofs.Common.{take, subst, ap, arith}
use Rattle.rc_record.specs.Writing.{HasPlace}
use Rattle.rc_record.proofs.Counts.{copies, copies_before}
use Rattle.rc_record.proofs.marks.mark_number.Goals as goal

pub returns-in-Finish-clause-within : goal.returns-in-Finish-clause-within
returns-in-Finish-clause-within c =
    let items = c.args.plan.now.items in
    let before = copies_before items c.in-Finish.n (subst (HasPlace c.args.plan.now) c.in-Finish.is c.requires.place) in
    omega (arith, before, c.unit_count.ensures, c.count_copies.ensures.count, ap (λ items. copies (take c.in-Finish.n items)) c.items-items.ensures)
