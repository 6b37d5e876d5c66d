use Rattle.std.proofs.Common.{◌≡◌, length}
use Rattle.std.specs.Option.{option_map, option_or}
use Rattle.rc_jobfiles.specs.Picking.{directory_given}
use Rattle.rc_jobfiles.specs.Reading.{last_given}
use Rattle.rc_jobfiles.proofs.picking.last_directory.Given as goal

abbrev pub invariant-lists : goal.invariant-lists
invariant-lists l = option_or (last_given (directory_given) l.rest) (l.found) ≡ last_given (directory_given) l.fn.lists

abbrev pub decreases-lists : goal.decreases-lists
decreases-lists l = length l.rest
