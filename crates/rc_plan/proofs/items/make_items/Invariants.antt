use Rattle.std.proofs.Common.{◌≡◌, ◌++◌, length}
use Rattle.std.specs.List.{filter_map, zip}
use Rattle.rc_plan.specs.Settled.{settled_item}
use Rattle.rc_plan.proofs.items.make_items.Given as goal

abbrev pub invariant-rows : goal.invariant-rows
invariant-rows l =
    l.items.items ++ filter_map (settled_item l.job) (zip l.left.items l.decisions.items)
    ≡ filter_map (settled_item l.job) (zip l.fn.rows.items l.fn.decisions.items)

abbrev pub decreases-rows : goal.decreases-rows
decreases-rows l = length l.left.items
