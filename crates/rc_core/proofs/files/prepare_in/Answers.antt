use Rattle.std.proofs.Common.{◌<◌, List, length, set, subst, sym}
use Rattle.rc_core.specs.Events.{prepare_file}
use Rattle.rc_core.specs.Rows.{Leaves, changed_at}
use Rattle.rc_core.specs.declared.rows.FileRow.{FileRow}
use Rattle.rc_core.proofs.Changed.{left_in}
use Rattle.rc_core.proofs.files.prepare_in.Goals as goal

pub returns : goal.returns
returns c =
    subst (λ (rows : List FileRow). Leaves c.prepare_file.result rows (changed_at c.args.n prepare_file rows) (set c.files.inside.rows.items c.args.n c.prepare_file.new.row)) c.files.view_is
    (left_in c.prepare_file.result c.args.n prepare_file c.files.inside.rows.items c.index_mut.result.now c.prepare_file.new.row
    (subst (λ (rows : List FileRow). c.args.n < length rows) (sym c.files.view_is) c.requires)
    (subst (λ (row : FileRow). Leaves c.prepare_file.result row (prepare_file row) c.prepare_file.new.row) c.index_mut.ensures.value c.prepare_file.ensures))
