use Rattle.std.proofs.Common.{length}
use Rattle.std.specs.Option.{option_copied}
use Rattle.rc_plan.proofs.Settles.{Settles}
use Rattle.rc_plan.proofs.settling.settle.Given as goal

abbrev pub invariant-rows : goal.invariant-rows
invariant-rows l =
    Settles l.job l.moment l.fn.rows l.left l.decisions.items
    (option_copied l.copied) (option_copied l.on_target) (option_copied l.in_source)

abbrev pub decreases-rows : goal.decreases-rows
decreases-rows l = length l.left
