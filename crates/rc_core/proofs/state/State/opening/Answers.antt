use Rattle.std.proofs.Common.{subst, sym}
use Rattle.rc_core.specs.Sound.{Sound}
use Rattle.rc_core.proofs.Building.{opened_is}
use Rattle.rc_core.proofs.state.State.opening.Goals as goal

pub returns-clause-opened : goal.returns-clause-opened
returns-clause-opened c = opened_is c.args.noted c.args.rules c.args.source c.args.target c.args.retries c.in_ok-files.files c.in_ok-units.units c.in_ok-files.ensures.files c.in_ok-units.ensures

pub returns-clause-sound : goal.returns-clause-sound
returns-clause-sound c = λ is_open source_rising target_rising.
    subst Sound (sym (opened_is c.args.noted c.args.rules c.args.source c.args.target c.args.retries c.in_ok-files.files c.in_ok-units.units c.in_ok-files.ensures.files c.in_ok-units.ensures))
    (c.soundness_is_kept.ensures.opened c.args.noted c.args.rules c.args.source c.args.target c.args.retries source_rising target_rising is_open)
