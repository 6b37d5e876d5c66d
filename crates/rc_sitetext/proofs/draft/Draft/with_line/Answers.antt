use Rattle.std.proofs.Common.{sym, ◌∙◌}
use Rattle.rc_sitetext.specs.Drafts.{seen}
use Rattle.rc_sitetext.proofs.Steps.{line_is_no_text, line_is_text}
use Rattle.rc_sitetext.proofs.draft.Draft.with_line.Goals as goal

pub returns-in-Ok : goal.returns-in-Ok
returns-in-Ok c =
    let same = c.in-Ok.ensures.cases.0 in
    rw (line_is_text (seen c.args.self) c.args.line.now (sym c.is_done.ensures ∙ c.if-is_done.false) c.in-Ok.ensures.cases.1, ← same) c.with_text.ensures

pub returns-in-Err : goal.returns-in-Err
returns-in-Err c = line_is_no_text (seen c.args.self) c.args.line.now (sym c.is_done.ensures ∙ c.if-is_done.false) c.in-Err.ensures.cases.0
