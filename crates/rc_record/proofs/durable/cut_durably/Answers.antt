use Rattle.rc_record.proofs.Since.{left_by_cut, left_by_sync}
use Rattle.rc_record.proofs.durable.cut_durably.Goals as goal

pub returns-in-Ok-clause-left : goal.returns-in-Ok-clause-left
returns-in-Ok-clause-left g c = λ tells left.
    let old = g.S.Site.view c.args.site.now in
    let mid = g.S.Site.view c.record_cut.new.self in
    left_by_sync c.record_sync.result mid (g.S.Site.view c.record_sync.new.self) (c.record_sync.ensures.log tells) (c.record_sync.ensures.frame.told tells)
    (left_by_cut c.record_cut.result c.args.len old mid (c.record_cut.ensures.frame.here tells) (c.record_cut.ensures.log tells) left)

pub returns-in-Err-clause-left : goal.returns-in-Err-clause-left
returns-in-Err-clause-left g c = λ tells left.
    left_by_cut c.record_cut.result c.args.len (g.S.Site.view c.args.site.now) (g.S.Site.view c.record_cut.new.self) (c.record_cut.ensures.frame.here tells) (c.record_cut.ensures.log tells) left
