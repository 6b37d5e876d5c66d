use Rattle.std.proofs.Common.{◌<◌, List, length, set, subst, sym}
use Rattle.rc_core.specs.Events.{fail_finish}
use Rattle.rc_core.specs.Rows.{Leaves, changed_at}
use Rattle.rc_core.specs.declared.rows.FileRow.{FileRow}
use Rattle.rc_core.proofs.Changed.{left_in}
use Rattle.rc_core.proofs.fails.open_in.Goals as goal

pub returns : goal.returns
returns c =
    let change = fail_finish c.args.with_bytes c.args.retries c.args.booked c.args.left c.args.goal in
    subst (λ (rows : List FileRow). Leaves c.fail_finish_of.result rows (changed_at c.args.n change rows) (set c.files.inside.rows.items c.args.n c.fail_finish_of.new.row)) c.files.view_is
    (left_in c.fail_finish_of.result c.args.n change c.files.inside.rows.items c.index_mut-row.result.now c.fail_finish_of.new.row
    (subst (λ (rows : List FileRow). c.args.n < length rows) (sym c.files.view_is) c.requires)
    (subst (λ (row : FileRow). Leaves c.fail_finish_of.result row (change row) c.fail_finish_of.new.row) c.index_mut-row.ensures.value c.fail_finish_of.ensures))
