use Rattle.rc_class.proofs.Left.{left_stays}
use Rattle.rc_class.proofs.laws.left_keys_stay.Goals as goal

pub returns : goal.returns
returns c = left_stays
