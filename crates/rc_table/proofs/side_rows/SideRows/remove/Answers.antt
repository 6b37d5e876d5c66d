use Rattle.std.proofs.Common.{None, refl}
use Rattle.rc_table.specs.SideRows.{held}
use Rattle.rc_table.proofs.Held.{puts-held}
use Rattle.rc_table.proofs.side_rows.SideRows.remove.Goals as goal

pub returns : goal.returns
returns c =
    puts-held c.args.path.now None c.self.inside.rows c.remove.new.self c.remove.ensures.updates c.args.self.now (held c.remove.new.self) c.self.view_is refl
