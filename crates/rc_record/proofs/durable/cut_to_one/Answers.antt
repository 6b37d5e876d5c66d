use Rattle.rc_record.proofs.Since.{left_by_cut, left_by_look}
use Rattle.rc_record.proofs.durable.cut_to_one.Goals as goal

pub returns-in-Ok-clause-left : goal.returns-in-Ok-clause-left
returns-in-Ok-clause-left g c = λ tells left.
    let old = g.S.Site.view c.args.site.now in
    let mid = g.S.Site.view c.record_len.new.self in
    left_by_cut c.record_cut.result 1 mid (g.S.Site.view c.record_cut.new.self) (c.record_cut.ensures.frame.here tells) (c.record_cut.ensures.log tells)
    (left_by_look old mid (c.record_len.ensures.frame.told tells) (c.record_len.ensures.frame.log tells) left)
