use Rattle.std.proofs.Common.{ap, rules}
use Rattle.rc_stop.proofs.KeptSteps.{kept-new}
use Rattle.rc_stop.proofs.kept.KeptSite.new.Goals as goal

pub invariant_of-result : goal.invariant_of-result
invariant_of-result c =
    kept-new c.in_ok-new.field-0 c.args.source c.args.target c.args.notes.items (record { tree = c.in_ok-first.first; from = 0 }) (record { tree = c.in_ok-second.second; from = 0 }) (record { bytes = c.in_ok-bytes.bytes; calls = c.new-2.result }) c.new-3.result.items
    c.in_ok-new.ensures.log c.in_ok-new.ensures.told c.keeps_shape.ensures c.keeps_shape-2.ensures (ap (λ t. record { tree = t; from = 0 }) c.in_ok-first.ensures) (ap (λ t. record { tree = t; from = 0 }) c.in_ok-second.ensures)
    (search rules) c.new-2.ensures.items c.new-3.ensures.items
