use Rattle.std.proofs.Common.{◌+◌, length}
use Rattle.rc_plan.proofs.Pairings.{Pairing}
use Rattle.rc_plan.proofs.pairs.pair_sides.Given as goal

abbrev pub invariant-keys : goal.invariant-keys
invariant-keys l = Pairing l.fn.source.items l.fn.target.items l.ours.items l.theirs.items l.pairs.items

abbrev pub decreases-keys : goal.decreases-keys
decreases-keys l = length l.ours.items + length l.theirs.items
