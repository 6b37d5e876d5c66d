use Rattle.rc_failing.proofs.Counted.{counts-behind}
use Rattle.rc_failing.proofs.named.Named.is_due.Goals as goal

pub returns-clause-number : goal.returns-clause-number
returns-clause-number c =
    counts-behind c.args.part c.args.self.now c.is_kind_due-by_kind.new.self c.is_number_due-by_number.new.self c.is_kind_due-by_kind.ensures.others c.is_number_due-by_number.ensures.counted
