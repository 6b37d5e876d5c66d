use Rattle.std.proofs.Common.{◌∷◌, ◌++◌, [], ◌∙◌, ap}
use Rattle.std.specs.Prelude.{slice_get}
use Rattle.rc_core.specs.Opened.{opened_unit}
use Rattle.rc_core.specs.declared.rows.UnitRow.{UnitRow}
use Rattle.rc_core.proofs.Building.{numbered_more}
use Rattle.rc_core.proofs.opening.opened_units.Goals as goal

pub loop-n-preserved : goal.loop-n-preserved
loop-n-preserved c =
    numbered_more (λ extent n. opened_unit extent (slice_get c.args.marks.now n)) c.args.extents.now c.loop-n.n (record { file = 0; off = 0; len = 0 }) c.loop-n.units.items c.push.new.self.items c.loop-n-test.true c.loop-n.invariant
    (c.in_ok-push.ensures.items ∙ ap (λ (row : UnitRow). c.loop-n.units.items ++ row ∷ []) (c.opened_unit.ensures ∙ ap (opened_unit _) c.mark_at.ensures))
