use Rattle.rc_core.proofs.Same.{props_decide}
use Rattle.rc_core.proofs.left.are_same_props.Goals as goal

pub returns : goal.returns
returns c =
    props_decide c.is_same_attr-attr.result c.are_same_times-times.result c.are_same_security-security.result c.args.a.now c.args.b.now
    c.is_same_attr-attr.ensures c.are_same_times-times.ensures c.are_same_security-security.ensures
