use Rattle.std.proofs.Common.{◌∷◌, ◌++◌, [], ◌∙◌, ap, get_or}
use Rattle.std.specs.Prelude.{slice_get}
use Rattle.rc_core.specs.Events.{stopped_unit}
use Rattle.rc_core.specs.declared.rows.UnitRow.{UnitRow}
use Rattle.rc_core.specs.declared.rows.UnitState.TheVariants as unit
use Rattle.rc_core.proofs.Building.{numbered_more}
use Rattle.rc_core.proofs.stops.stopped_units.Goals as goal

pub loop-n-preserved : goal.loop-n-preserved
loop-n-preserved c =
    let row : UnitRow = record { extent = record { file = 0; off = 0; len = 0 }; state = unit.Free; attempts = 0 } in
    numbered_more (λ row n. stopped_unit row (slice_get c.args.marks.now n)) c.args.rows.now c.loop-n.n row c.loop-n.stopped.items c.push.new.self.items c.loop-n-test.true c.loop-n.invariant
    (c.in_ok-push.ensures.items
    ∙ ap (λ (row : UnitRow). c.loop-n.stopped.items ++ row ∷ []) (c.stopped_unit.ensures ∙ ap (stopped_unit (get_or c.args.rows.now c.loop-n.n row)) c.mark_at.ensures))
