use Rattle.rc_finish.proofs.PlanLemmas.{plan_below, plan_fits}
use Rattle.rc_finish.proofs.laws.a_plan_fits.Goals as goal

pub returns : goal.returns
returns c = record {
  below = plan_below;
  fit = plan_fits;
}
