use Rattle.std.proofs.Common.{◌∙◌}
use Rattle.rc_sitetext.proofs.FieldValues.{all_digits}
use Rattle.rc_sitetext.proofs.values.are_digits.Goals as goal

pub returns : goal.returns
returns c = c.are_all_digits.ensures ∙ all_digits c.args.text.now
