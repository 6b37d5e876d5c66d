use Rattle.rc_filter.proofs.Planned.{planned}
use Rattle.rc_filter.proofs.laws.plans_have_the_planned_items.Goals as goal

pub returns : goal.returns
returns c = planned
