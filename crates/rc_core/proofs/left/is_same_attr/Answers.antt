use Rattle.rc_core.proofs.Same.{attr_decide}
use Rattle.rc_core.proofs.left.is_same_attr.Goals as goal

pub returns : goal.returns
returns c = attr_decide c.eq.result c.args.a c.args.b c.eq.ensures
