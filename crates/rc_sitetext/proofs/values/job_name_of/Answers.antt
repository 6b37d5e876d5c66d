use Rattle.std.proofs.Common.{◌∙◌, sym, ap, Some, List, ℕ}
use Rattle.rc_sitetext.proofs.FieldValues.{name_read}
use Rattle.rc_sitetext.proofs.values.job_name_of.Goals as goal

pub returns : goal.returns
returns c = name_read c.args.text.now c.utf8.text (sym c.is_empty.ensures ∙ c.if-is_empty.false) ∙ ap (λ (t : List ℕ). Some t) (sym c.in_ok-of.ensures)
