use Rattle.std.proofs.Common.{Some, ap, sym, ◌∙◌}
use Rattle.std.specs.FinMap.{get}
use Rattle.rc_table.proofs.Held.{get-held}
use Rattle.rc_table.proofs.side_rows.SideRows.at.Goals as goal

pub returns-in_ok-copy_row-in-Some-clause-found : goal.returns-in_ok-copy_row-in-Some-clause-found
returns-in_ok-copy_row-in-Some-clause-found c =
    ap Some c.in_ok-copy_row-in-Some.ensures.copied ∙ c.in-Some.ensures.value ∙ sym (get-held c.self.inside.rows c.args.path.now)
    ∙ ap (λ t. get t c.args.path.now) c.self.view_is

pub returns-in-None-clause-found : goal.returns-in-None-clause-found
returns-in-None-clause-found c =
    c.in-None.ensures.value ∙ sym (get-held c.self.inside.rows c.args.path.now) ∙ ap (λ t. get t c.args.path.now) c.self.view_is
