use Rattle.std.proofs.Common.{sym, ◌∙◌}
use Rattle.rc_class.proofs.Ranges.{counted}
use Rattle.rc_class.proofs.plan.item_units.Goals as goal

pub returns-then-is_copy-clause-count : goal.returns-then-is_copy-clause-count
returns-then-is_copy-clause-count c =
    c.range_count.ensures.count
    ∙ sym (counted c.args.stride c.args.with_bytes c.args.item.now c.if-with_bytes.true (sym c.is_copy.ensures ∙ c.if-is_copy.true))
