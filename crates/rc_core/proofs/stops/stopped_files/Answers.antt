use Rattle.std.proofs.Common.{◌∷◌, ◌++◌, [], ◌∙◌, ap}
use Rattle.std.specs.Prelude.{slice_get}
use Rattle.rc_core.specs.Events.{stopped_file}
use Rattle.rc_core.specs.declared.rows.FileRow.{FileRow}
use Rattle.rc_core.proofs.Building.{numbered_more}
use Rattle.rc_core.proofs.stops.stopped_files.Goals as goal

pub loop-n-preserved : goal.loop-n-preserved
loop-n-preserved c =
    let marks = c.args.marks.now in
    let image = c.args.image.now in
    numbered_more (λ row n. stopped_file image row (slice_get marks n)) c.args.rows.now c.loop-n.n c.index-rows-n.result c.loop-n.stopped.items c.push.new.self.items c.loop-n-test.true c.loop-n.invariant
    (c.in_ok-push.ensures.items
    ∙ ap (λ (row : FileRow). c.loop-n.stopped.items ++ row ∷ [])
    (c.in_ok-row.ensures ∙ ap (stopped_file image c.index-rows-n.result) c.mark_at.ensures ∙ ap (λ (row : FileRow). stopped_file image row (slice_get marks c.loop-n.n)) c.index-rows-n.is))
