use Rattle.rc_filter.proofs.Places.{decided_items}
use Rattle.rc_filter.proofs.laws.decided_items.Goals as goal

pub returns : goal.returns
returns c = decided_items
