use Rattle.std.proofs.Common.{◌≡◌, ◌++◌, map, take}
use Rattle.rc_class.specs.Units.{ranges_of, unit_of}
use Rattle.rc_core.specs.Opened.{extent_of}
use Rattle.rc_core.proofs.opening.push_extents.Given as goal

abbrev pub invariant-loop-k : goal.invariant-loop-k
invariant-loop-k l = l.all.items ≡ l.fn.all.items ++ map (extent_of l.n) (map (unit_of l.item) (take l.k (ranges_of l.plan.stride l.item.facts.size)))
