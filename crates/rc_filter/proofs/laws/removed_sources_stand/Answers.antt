use Rattle.rc_filter.proofs.Standing.{removed_stands}
use Rattle.rc_filter.proofs.laws.removed_sources_stand.Goals as goal

pub returns : goal.returns
returns c = removed_stands
