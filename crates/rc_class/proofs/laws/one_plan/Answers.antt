use Rattle.rc_class.proofs.Plans.{one_plan}
use Rattle.rc_class.proofs.laws.one_plan.Goals as goal

pub returns : goal.returns
returns c = one_plan
