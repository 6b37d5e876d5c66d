use Rattle.std.proofs.Common.{◌≤◌, List, ℕ, Some, length, refl, subst, sym}
use Rattle.rc_table.specs.declared.row.Row.{Row}
use Rattle.rc_table.specs.Rows.{greatest_path_text}
use Rattle.rc_table.specs.SideRows.{PutsAt, held}
use Rattle.rc_table.proofs.Held.{bounded-held, puts-held}
use Rattle.rc_table.proofs.side_rows.SideRows.keep.Goals as goal

pub invariant_of-self : goal.invariant_of-self
invariant_of-self c =
    bounded-held c.in_ok-path.path (Some c.in_ok-row.row) c.self.inside.rows c.insert.new.self c.in-Ok.ensures.updates c.self.invariant
    (subst (λ (k : List ℕ). length k ≤ greatest_path_text) (sym c.in_ok-path.ensures.copied) c.requires)

pub returns-in-Ok-clause-kept : goal.returns-in-Ok-clause-kept
returns-in-Ok-clause-kept c =
    subst (λ (k : List ℕ). PutsAt k (Some c.args.row.now) c.args.self.now (held c.insert.new.self)) c.in_ok-path.ensures.copied
    (subst (λ (r : Row). PutsAt c.in_ok-path.path (Some r) c.args.self.now (held c.insert.new.self)) c.in_ok-row.ensures.copied
    (puts-held c.in_ok-path.path (Some c.in_ok-row.row) c.self.inside.rows c.insert.new.self c.in-Ok.ensures.updates c.args.self.now (held c.insert.new.self) c.self.view_is refl))
