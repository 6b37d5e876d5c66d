use Rattle.std.proofs.Common.{sym, ◌∙◌}
use Rattle.rc_sitetext.proofs.Steps.{first_found, first_none}
use Rattle.rc_sitetext.proofs.reader.first_line.Goals as goal

pub returns-in-Some-clause-found : goal.returns-in-Some-clause-found
returns-in-Some-clause-found c = first_found c.args.text.now c.in-Some.end (sym c.line_end.ensures ∙ c.in-Some.is)

pub returns-in-None-clause-last : goal.returns-in-None-clause-last
returns-in-None-clause-last c = λ _. first_none c.args.text.now (sym c.line_end.ensures ∙ c.in-None.is)
