use Rattle.std.proofs.Common.{Ok, sym, subst}
use Rattle.rc_record.specs.Writing.{unmarked, StandsFor}
use Rattle.rc_record.proofs.Marked.{stands_unmarked}
use Rattle.rc_record.proofs.MarkBytes.{becomes_opened, open_images, open_kept}
use Rattle.rc_record.proofs.writing.open_gate.Goals as goal

pub returns-in-Ok-clause-images : goal.returns-in-Ok-clause-images
returns-in-Ok-clause-images g c = λ tells plan begun.
    open_images c.write_durably.result plan (g.S.Site.view c.args.site.now) (g.S.Site.view c.write_durably.new.site) begun (c.write_durably.ensures.log tells) (c.write_durably.ensures.notes tells)

pub returns-in-Ok-clause-opened : goal.returns-in-Ok-clause-opened
returns-in-Ok-clause-opened g c = λ tells plan begun.
    becomes_opened (Ok c.in-Ok.field-0) plan (g.S.Site.view c.write_durably.new.site) begun.typed
    (open_kept (Ok c.in-Ok.field-0) plan (g.S.Site.view c.args.site.now) (g.S.Site.view c.write_durably.new.site) begun (c.in-Ok.ensures.log tells) (c.in-Ok.ensures.notes tells))

pub returns-in-Err-clause-images : goal.returns-in-Err-clause-images
returns-in-Err-clause-images g c = λ tells plan begun.
    open_images c.write_durably.result plan (g.S.Site.view c.args.site.now) (g.S.Site.view c.write_durably.new.site) begun (c.write_durably.ensures.log tells) (c.write_durably.ensures.notes tells)

pub returns-in-Ok-clause-stands : goal.returns-in-Ok-clause-stands
returns-in-Ok-clause-stands g c = λ tells plan begun.
    let kept = open_kept (Ok c.in-Ok.field-0) plan (g.S.Site.view c.args.site.now) (g.S.Site.view c.write_durably.new.site) begun (c.in-Ok.ensures.log tells) (c.in-Ok.ensures.notes tells) in
    subst (StandsFor (unmarked plan)) (sym kept.reads) (stands_unmarked plan begun.allowed begun.typed)
