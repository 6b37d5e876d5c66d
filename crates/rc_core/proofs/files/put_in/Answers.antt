use Rattle.std.proofs.Common.{◌<◌, List, length, set, subst, sym}
use Rattle.rc_core.specs.Events.{put_bytes}
use Rattle.rc_core.specs.Rows.{Leaves, changed_at}
use Rattle.rc_core.specs.declared.rows.FileRow.{FileRow}
use Rattle.rc_core.proofs.Changed.{left_in}
use Rattle.rc_core.proofs.files.put_in.Goals as goal

pub returns : goal.returns
returns c =
    let change = put_bytes c.args.off c.args.bytes.now in
    subst (λ (rows : List FileRow). Leaves c.put_bytes.result rows (changed_at c.args.n change rows) (set c.files.inside.rows.items c.args.n c.put_bytes.new.row)) c.files.view_is
    (left_in c.put_bytes.result c.args.n change c.files.inside.rows.items c.index_mut.result.now c.put_bytes.new.row
    (subst (λ (rows : List FileRow). c.args.n < length rows) (sym c.files.view_is) c.requires)
    (subst (λ (row : FileRow). Leaves c.put_bytes.result row (change row) c.put_bytes.new.row) c.index_mut.ensures.value c.put_bytes.ensures))
