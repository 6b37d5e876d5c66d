use Rattle.std.proofs.Common.{lit<}
use Rattle.rc_sitetext.proofs.Appends.{props_put}
use Rattle.rc_sitetext.proofs.writer.put_props.Goals as goal

pub returns : goal.returns
returns c =
    props_put _ _ _ _ _ _ _ _ _ _ _ _ _ _ c.in_ok-put_attr.ensures
    (rw (c.units-created.ensures.count, c.units-written.ensures.count) at c.in_ok-write.ensures.bytes)
    (rw c.bytes.ensures.same at c.in_ok-put_security.ensures)
    (rw (c.in_ok-push.ensures.ascii (lit< tt)) at c.in_ok-push.ensures.bytes)
    (rw c.bytes-2.ensures.same at c.in_ok-put_security-2.ensures)
    (rw (c.in_ok-push-2.ensures.ascii (lit< tt)) at c.in_ok-push-2.ensures.bytes)
    (rw c.bytes-3.ensures.same at c.in_ok-put_security-3.ensures)
