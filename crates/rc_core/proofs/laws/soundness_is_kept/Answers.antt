use Rattle.rc_core.proofs.Beginnings.{opened_sound}
use Rattle.rc_core.proofs.KeptSteps.{event_kept, run_kept}
use Rattle.rc_core.proofs.laws.soundness_is_kept.Goals as goal

pub returns-clause-step : goal.returns-clause-step
returns-clause-step c = event_kept (record { inside = c.ranges_fill_a_file.ensures.inside; apart = c.ranges_fill_a_file.ensures.apart })

pub returns-clause-run : goal.returns-clause-run
returns-clause-run c = run_kept (record { inside = c.ranges_fill_a_file.ensures.inside; apart = c.ranges_fill_a_file.ensures.apart })

pub returns-clause-opened : goal.returns-clause-opened
returns-clause-opened c = λ noted rules source target retries source_rising target_rising is_open. opened_sound noted rules source target retries is_open source_rising target_rising
