use Rattle.std.proofs.Common.{◌≡◌, ◌∷◌, ◌≤◌, [], length, sym, subst, ap}
use Rattle.rc_volume.specs.Log.{cut, write}
use Rattle.rc_volume.specs.Site.{Told}
use Rattle.rc_record.specs.Writing.{StandsForNothing}
use Rattle.rc_record.proofs.Closed.{closed_cut, closed_write, short, written_nothing, written_one}
use Rattle.rc_record.proofs.Since.{grows_call, grows_len, grows_on, grows_sync, kept_step, left_by_sync, only_sync, since_call, then_step, then_sync}
use Rattle.rc_record.proofs.durable.close.Goals as goal

pub returns-in-Err-clause-images : goal.returns-in-Err-clause-images
returns-in-Err-clause-images g c = λ tells each.
    since_call (cut 1) (g.S.Site.view c.args.site.now).log (g.S.Site.view c.cut_to_one.new.site).log StandsForNothing (c.cut_to_one.ensures.log tells) each (λ old new left by. closed_cut old new (each old left) by)

pub returns-in-Err-record_sync-clause-images : goal.returns-in-Err-record_sync-clause-images
returns-in-Err-record_sync-clause-images g c = λ tells each.
    let old = (g.S.Site.view c.args.site.now).log in
    let mid = g.S.Site.view c.cut_to_one.new.site in
    let cut_logged = c.cut_to_one.ensures.log tells in
    let one = since_call (cut 1) old mid.log StandsForNothing cut_logged each (λ old new left by. closed_cut old new (each old left) by) in
    then_sync c.record_sync.result mid.told.notes mid.log (g.S.Site.view c.record_sync.new.self).log (length old) StandsForNothing (grows_len old mid.log (grows_call (cut 1) old mid.log cut_logged)) one
    (c.record_sync.ensures.log tells) (short mid.told.notes (c.in-Ok.ensures.short tells))

pub returns-clause-images : goal.returns-clause-images
returns-clause-images g c = λ tells each.
    let old = (g.S.Site.view c.args.site.now).log in
    let mid = g.S.Site.view c.cut_to_one.new.site in
    let synced = g.S.Site.view c.record_sync.new.self in
    let new = g.S.Site.view c.write_durably.new.site in
    let cut_logged = c.cut_to_one.ensures.log tells in
    let sync_logged = c.record_sync.ensures.log tells in
    let le = c.in-Ok.ensures.short tells in
    let one = since_call (cut 1) old mid.log StandsForNothing cut_logged each (λ old new left by. closed_cut old new (each old left) by) in
    let two = then_sync c.record_sync.result mid.told.notes mid.log synced.log (length old) StandsForNothing (grows_len old mid.log (grows_call (cut 1) old mid.log cut_logged)) one sync_logged (short mid.told.notes le) in
    let only = only_sync mid.told.notes mid.log synced.log (c.in-Ok-record_sync.ensures.log tells) in
    let same : synced.told.notes ≡ mid.told.notes = ap (λ (told : Told). told.notes) (c.record_sync.ensures.frame.told tells) in
    let grown = grows_len old synced.log (grows_on old mid.log synced.log (grows_call (cut 1) old mid.log cut_logged) (grows_sync c.record_sync.result mid.told.notes mid.log synced.log sync_logged)) in
    then_step c.write_durably.result (write 0 1) new.told.notes synced.log new.log (length old) StandsForNothing grown two (c.write_durably.ensures.log tells)
    (λ before image left by. closed_write before image (subst (λ n. length n ≤ 1) (sym (only.only before left)) le) by)
    (written_nothing c.write_durably.result synced.told.notes new.told.notes (subst (λ n. length n ≤ 1) (sym same) le) (c.write_durably.ensures.notes tells))

pub returns-clause-closed : goal.returns-clause-closed
returns-clause-closed g c = λ tells.
    let mid = g.S.Site.view c.cut_to_one.new.site in
    let synced = g.S.Site.view c.record_sync.new.self in
    let new = g.S.Site.view c.write_durably.new.site in
    let same : synced.told.notes ≡ mid.told.notes = ap (λ (told : Told). told.notes) (c.record_sync.ensures.frame.told tells) in
    kept_step c.write_durably.result (write 0 1) (0 ∷ []) synced new (c.write_durably.ensures.log tells)
    (written_one c.write_durably.result synced.told.notes new.told.notes (subst (λ n. length n ≤ 1) (sym same) (c.in-Ok.ensures.short tells)) (c.write_durably.ensures.notes tells))

pub returns-in-Err-record_sync-clause-left : goal.returns-in-Err-record_sync-clause-left
returns-in-Err-record_sync-clause-left g c = λ tells left.
    left_by_sync c.record_sync.result (g.S.Site.view c.cut_to_one.new.site) (g.S.Site.view c.record_sync.new.self) (c.record_sync.ensures.log tells) (c.record_sync.ensures.frame.told tells) (c.cut_to_one.ensures.left tells left)

pub returns-clause-left : goal.returns-clause-left
returns-clause-left g c = λ tells left.
    c.write_durably.ensures.left tells
    (left_by_sync c.record_sync.result (g.S.Site.view c.cut_to_one.new.site) (g.S.Site.view c.record_sync.new.self) (c.record_sync.ensures.log tells) (c.record_sync.ensures.frame.told tells) (c.cut_to_one.ensures.left tells left))
