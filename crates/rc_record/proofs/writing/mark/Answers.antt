use Rattle.std.proofs.Common.{◌≡◌, ◌+◌, ◌∷◌, ◌++◌, [], take, drop, subst, Ok}
use Rattle.rc_volume.specs.Log.{write}
use Rattle.rc_record.proofs.Marked.{stands_marked}
use Rattle.rc_record.proofs.MarkBytes.{mark_images, mark_stands, put_mark, stays_opened}
use Rattle.rc_record.proofs.Since.{grows_step, only_if}
use Rattle.rc_record.proofs.writing.mark.Goals as goal

pub returns-in-Ok-clause-images : goal.returns-in-Ok-clause-images
returns-in-Ok-clause-images g c = λ tells.
    mark_images c.write_durably.result c.args.plan.now c.args.place c.mark_off.result (g.S.Site.view c.args.site.now) (g.S.Site.view c.write_durably.new.site) c.mark_off.ensures.off c.mark_off.ensures.within
    (c.requires.opened tells) (c.write_durably.ensures.log tells) (c.write_durably.ensures.notes tells)

pub returns-in-Ok-clause-marked : goal.returns-in-Ok-clause-marked
returns-in-Ok-clause-marked g c = λ tells.
    let old = (g.S.Site.view c.args.site.now).told.notes in
    let new = (g.S.Site.view c.write_durably.new.site).told.notes in
    put_mark c.args.plan.now c.args.place old new c.mark_off.ensures.within (c.requires.opened tells).reads
    (subst (λ k. new ≡ take k old ++ (0xA5 ∷ []) ++ drop (k + 1) old) c.mark_off.ensures.off (c.in-Ok.ensures.notes tells))

pub returns-in-Ok-clause-only : goal.returns-in-Ok-clause-only
returns-in-Ok-clause-only g c = λ tells.
    only_if (Ok c.in-Ok.field-0) (write c.mark_off.result 1) _ (g.S.Site.view c.args.site.now).log (g.S.Site.view c.write_durably.new.site).log (c.in-Ok.ensures.log tells)

pub returns-in-Err-clause-images : goal.returns-in-Err-clause-images
returns-in-Err-clause-images g c = λ tells.
    mark_images c.write_durably.result c.args.plan.now c.args.place c.mark_off.result (g.S.Site.view c.args.site.now) (g.S.Site.view c.write_durably.new.site) c.mark_off.ensures.off c.mark_off.ensures.within
    (c.requires.opened tells) (c.write_durably.ensures.log tells) (c.write_durably.ensures.notes tells)

pub returns-in-Ok-clause-opened : goal.returns-in-Ok-clause-opened
returns-in-Ok-clause-opened g c = λ tells.
    let old = g.S.Site.view c.args.site.now in
    let new = g.S.Site.view c.write_durably.new.site in
    let opened = c.requires.opened tells in
    stays_opened c.args.plan.now c.args.place c.mark_off.result old new c.mark_off.ensures.off c.mark_off.ensures.within opened (grows_step c.write_durably.result (write c.mark_off.result 1) new.told.notes old.log new.log (c.write_durably.ensures.log tells))
    (mark_images c.write_durably.result c.args.plan.now c.args.place c.mark_off.result old new c.mark_off.ensures.off c.mark_off.ensures.within opened (c.write_durably.ensures.log tells) (c.write_durably.ensures.notes tells))
    (c.write_durably.ensures.torn tells) (c.write_durably.ensures.left tells opened.left)

pub returns-in-Err-clause-opened : goal.returns-in-Err-clause-opened
returns-in-Err-clause-opened g c = λ tells.
    let old = g.S.Site.view c.args.site.now in
    let new = g.S.Site.view c.write_durably.new.site in
    let opened = c.requires.opened tells in
    stays_opened c.args.plan.now c.args.place c.mark_off.result old new c.mark_off.ensures.off c.mark_off.ensures.within opened (grows_step c.write_durably.result (write c.mark_off.result 1) new.told.notes old.log new.log (c.write_durably.ensures.log tells))
    (mark_images c.write_durably.result c.args.plan.now c.args.place c.mark_off.result old new c.mark_off.ensures.off c.mark_off.ensures.within opened (c.write_durably.ensures.log tells) (c.write_durably.ensures.notes tells))
    (c.write_durably.ensures.torn tells) (c.write_durably.ensures.left tells opened.left)

pub returns-in-Ok-clause-stands : goal.returns-in-Ok-clause-stands
returns-in-Ok-clause-stands g c = λ tells.
    mark_stands c.write_durably.result c.args.plan.now c.args.place c.mark_off.result (g.S.Site.view c.args.site.now) (g.S.Site.view c.write_durably.new.site) c.requires.allowed c.requires.place c.mark_off.ensures.off c.mark_off.ensures.within
    (c.requires.opened tells) (c.write_durably.ensures.log tells) (c.write_durably.ensures.notes tells)

pub returns-in-Err-clause-stands : goal.returns-in-Err-clause-stands
returns-in-Err-clause-stands g c = λ tells.
    mark_stands c.write_durably.result c.args.plan.now c.args.place c.mark_off.result (g.S.Site.view c.args.site.now) (g.S.Site.view c.write_durably.new.site) c.requires.allowed c.requires.place c.mark_off.ensures.off c.mark_off.ensures.within
    (c.requires.opened tells) (c.write_durably.ensures.log tells) (c.write_durably.ensures.notes tells)

pub returns-in-Ok-clause-adds : goal.returns-in-Ok-clause-adds
returns-in-Ok-clause-adds g c = λ tells note was.
    let old = (g.S.Site.view c.args.site.now).told.notes in
    let new = (g.S.Site.view c.write_durably.new.site).told.notes in
    let opened = c.requires.opened tells in
    stands_marked c.args.plan.now c.args.place 0xA5 old new note c.requires.allowed opened.typed c.requires.place
    (put_mark c.args.plan.now c.args.place old new c.mark_off.ensures.within opened.reads (subst (λ k. new ≡ take k old ++ (0xA5 ∷ []) ++ drop (k + 1) old) c.mark_off.ensures.off (c.in-Ok.ensures.notes tells)))
    was
