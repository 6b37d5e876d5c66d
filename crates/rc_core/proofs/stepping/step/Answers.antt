use Rattle.rc_core.proofs.KeptSteps.{step_kept}
use Rattle.rc_core.proofs.stepping.step.Goals as goal

pub returns-clause-sound : goal.returns-clause-sound
returns-clause-sound c = step_kept c.soundness_is_kept.ensures.step c.args.state.now c.args.event.now c.go_on.result c.go_on.new.state c.go_on.ensures
