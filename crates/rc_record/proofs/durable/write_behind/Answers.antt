use Rattle.std.proofs.Common.{◌∷◌, length, refl, sym, subst}
use Rattle.rc_record.specs.Writing.{BeginsClosed, StandsForNothing}
use Rattle.rc_record.proofs.Closed.{begins_closed}
use Rattle.rc_record.proofs.Since.{grows_len, kept_sync, left_by_sync, since_weaker, then_sync}
use Rattle.rc_record.proofs.durable.write_behind.Goals as goal

pub returns-in-Err-clause-images : goal.returns-in-Err-clause-images
returns-in-Err-clause-images g c = λ tells.
    since_weaker (g.S.Site.view c.write_pieces.new.site).log (length (g.S.Site.view c.args.site.now).log) BeginsClosed StandsForNothing begins_closed (c.write_pieces.ensures.images tells)

pub returns-in-Ok-clause-images : goal.returns-in-Ok-clause-images
returns-in-Ok-clause-images g c = λ tells.
    let old = (g.S.Site.view c.args.site.now).log in
    let mid = g.S.Site.view c.write_pieces.new.site in
    let new = g.S.Site.view c.record_sync.new.self in
    then_sync c.record_sync.result mid.told.notes mid.log new.log (length old) StandsForNothing (grows_len old mid.log (c.write_pieces.ensures.log tells))
    (since_weaker mid.log (length old) BeginsClosed StandsForNothing begins_closed (c.write_pieces.ensures.images tells))
    (c.record_sync.ensures.log tells)
    (subst StandsForNothing (sym (c.in-Ok.ensures.written tells)) (begins_closed (0 ∷ c.args.bytes.now) refl))

pub returns-in-Ok-clause-written : goal.returns-in-Ok-clause-written
returns-in-Ok-clause-written g c = λ tells.
    kept_sync c.record_sync.result (0 ∷ c.args.bytes.now) (g.S.Site.view c.write_pieces.new.site) (g.S.Site.view c.record_sync.new.self) (c.record_sync.ensures.log tells) (c.record_sync.ensures.frame.told tells) (c.in-Ok.ensures.written tells)

pub returns-in-Ok-clause-left : goal.returns-in-Ok-clause-left
returns-in-Ok-clause-left g c = λ tells.
    left_by_sync c.record_sync.result (g.S.Site.view c.write_pieces.new.site) (g.S.Site.view c.record_sync.new.self) (c.record_sync.ensures.log tells) (c.record_sync.ensures.frame.told tells) (c.write_pieces.ensures.left tells)
