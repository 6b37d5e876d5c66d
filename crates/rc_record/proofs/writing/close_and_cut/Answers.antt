use Rattle.std.proofs.Common.{[], Ok, length, ap}
use Rattle.std.specs.Prelude.{slice_get}
use Rattle.rc_volume.specs.Log.{cut, write}
use Rattle.rc_record.proofs.Closed.{begins_closed}
use Rattle.rc_record.proofs.MarkBytes.{clear_images, closes, cut_none, cut_one, one_left}
use Rattle.rc_record.proofs.Since.{grows_len, grows_on, grows_step, kept_step, only_if}
use Rattle.rc_record.proofs.writing.close_and_cut.Goals as goal

pub returns-in-Err-clause-images : goal.returns-in-Err-clause-images
returns-in-Err-clause-images g c = λ tells each.
    clear_images c.write_durably.result (g.S.Site.view c.args.site.now) (g.S.Site.view c.write_durably.new.site) each (c.write_durably.ensures.log tells) (c.write_durably.ensures.notes tells)

pub returns-in-Err-cut_durably-clause-images : goal.returns-in-Err-cut_durably-clause-images
returns-in-Err-cut_durably-clause-images g c = λ tells each.
    let old = g.S.Site.view c.args.site.now in
    let mid = g.S.Site.view c.write_durably.new.site in
    let one = clear_images c.write_durably.result old mid each (c.write_durably.ensures.log tells) (c.write_durably.ensures.notes tells) in
    let only = only_if (Ok c.in-Ok.field-0) (write 0 1) mid.told.notes old.log mid.log (c.in-Ok.ensures.log tells) in
    let nothing = begins_closed mid.told.notes (ap (λ t. slice_get t 0) (closes old.told.notes mid.told.notes (c.in-Ok.ensures.notes tells))) in
    cut_one c.cut_durably.result old.log mid (g.S.Site.view c.cut_durably.new.site) (length old.log) (grows_len old.log mid.log (grows_step c.write_durably.result (write 0 1) mid.told.notes old.log mid.log (c.write_durably.ensures.log tells))) one only nothing
    (c.cut_durably.ensures.log tells) (c.cut_durably.ensures.notes tells)

pub returns-in-Ok-cut_durably-clause-images : goal.returns-in-Ok-cut_durably-clause-images
returns-in-Ok-cut_durably-clause-images g c = λ tells each.
    let old = g.S.Site.view c.args.site.now in
    let mid = g.S.Site.view c.write_durably.new.site in
    let cut_once = g.S.Site.view c.cut_durably.new.site in
    let one = clear_images c.write_durably.result old mid each (c.write_durably.ensures.log tells) (c.write_durably.ensures.notes tells) in
    let only = only_if (Ok c.in-Ok.field-0) (write 0 1) mid.told.notes old.log mid.log (c.in-Ok.ensures.log tells) in
    let nothing = begins_closed mid.told.notes (ap (λ t. slice_get t 0) (closes old.told.notes mid.told.notes (c.in-Ok.ensures.notes tells))) in
    let written = grows_step c.write_durably.result (write 0 1) mid.told.notes old.log mid.log (c.write_durably.ensures.log tells) in
    let two = cut_one c.cut_durably.result old.log mid cut_once (length old.log) (grows_len old.log mid.log written) one only nothing (c.cut_durably.ensures.log tells) (c.cut_durably.ensures.notes tells) in
    let later = grows_on old.log mid.log cut_once.log written (grows_step c.cut_durably.result (cut 1) cut_once.told.notes mid.log cut_once.log (c.cut_durably.ensures.log tells)) in
    cut_none c.cut_durably-in-Ok-cut_durably.result old.log cut_once (g.S.Site.view c.cut_durably-in-Ok-cut_durably.new.site) (length old.log) (grows_len old.log cut_once.log later) two
    (only_if (Ok c.in-Ok-cut_durably.field-0) (cut 1) cut_once.told.notes mid.log cut_once.log (c.in-Ok-cut_durably.ensures.log tells))
    (one_left mid.told.notes cut_once.told.notes (c.in-Ok-cut_durably.ensures.notes tells))
    (c.cut_durably-in-Ok-cut_durably.ensures.log tells) (c.cut_durably-in-Ok-cut_durably.ensures.notes tells)

pub returns-in-Ok-cut_durably-clause-empty : goal.returns-in-Ok-cut_durably-clause-empty
returns-in-Ok-cut_durably-clause-empty g c = λ tells.
    kept_step c.cut_durably-in-Ok-cut_durably.result (cut 0) [] (g.S.Site.view c.cut_durably.new.site) (g.S.Site.view c.cut_durably-in-Ok-cut_durably.new.site) (c.cut_durably-in-Ok-cut_durably.ensures.log tells) (c.cut_durably-in-Ok-cut_durably.ensures.notes tells)
