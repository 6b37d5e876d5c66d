use Rattle.rc_record.proofs.Since.{left_by_sync, left_by_write}
use Rattle.rc_record.proofs.durable.write_durably.Goals as goal

pub returns-in-Ok-clause-left : goal.returns-in-Ok-clause-left
returns-in-Ok-clause-left g c = λ tells left.
    let old = g.S.Site.view c.args.site.now in
    let mid = g.S.Site.view c.record_write.new.self in
    left_by_sync c.record_sync.result mid (g.S.Site.view c.record_sync.new.self) (c.record_sync.ensures.log tells) (c.record_sync.ensures.frame.told tells)
    (left_by_write c.record_write.result c.args.off c.args.bytes.now old mid (c.requires.within tells) (c.record_write.ensures.frame.here tells) (c.record_write.ensures.log tells) left)

pub returns-in-Err-clause-left : goal.returns-in-Err-clause-left
returns-in-Err-clause-left g c = λ tells left.
    left_by_write c.record_write.result c.args.off c.args.bytes.now (g.S.Site.view c.args.site.now) (g.S.Site.view c.record_write.new.self) (c.requires.within tells) (c.record_write.ensures.frame.here tells) (c.record_write.ensures.log tells) left
