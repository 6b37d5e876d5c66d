use Rattle.std.proofs.Common.{◌≡◌, length}
use Rattle.std.specs.Option.{option_map, option_or}
use Rattle.rc_jobfiles.specs.Merge.{given}
use Rattle.rc_jobfiles.specs.Reading.{last_given}
use Rattle.rc_jobfiles.proofs.picking.last_given.Given as goal

abbrev pub invariant-lists : goal.invariant-lists
invariant-lists l = option_or (last_given (given l.number) l.rest) (option_map (λ s. s.now) l.found) ≡ last_given (given l.number) l.fn.lists

abbrev pub decreases-lists : goal.decreases-lists
decreases-lists l = length l.rest
