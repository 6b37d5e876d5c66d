use Rattle.std.proofs.Common.{◌<◌, List, length, set, subst, sym}
use Rattle.rc_core.specs.Events.{failed_file}
use Rattle.rc_core.specs.Rows.{Leaves, changed_at}
use Rattle.rc_core.specs.declared.rows.FileRow.{FileRow}
use Rattle.rc_core.proofs.Changed.{left_in}
use Rattle.rc_core.proofs.fails.fail_in.Goals as goal

pub returns : goal.returns
returns c =
    let change = failed_file c.args.retries c.args.attempts c.args.is_prepared c.args.extent c.args.left in
    subst (λ (rows : List FileRow). Leaves c.failed_file.result rows (changed_at c.args.extent.file change rows) (set c.files.inside.rows.items c.args.extent.file c.failed_file.new.row)) c.files.view_is
    (left_in c.failed_file.result c.args.extent.file change c.files.inside.rows.items c.index_mut-row.result.now c.failed_file.new.row
    (subst (λ (rows : List FileRow). c.args.extent.file < length rows) (sym c.files.view_is) c.requires)
    (subst (λ (row : FileRow). Leaves c.failed_file.result row (change row) c.failed_file.new.row) c.index_mut-row.ensures.value c.failed_file.ensures))
