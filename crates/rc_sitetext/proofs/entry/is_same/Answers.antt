use Rattle.std.proofs.Common.{◌∙◌}
use Rattle.rc_sitetext.proofs.FieldValues.{same_chars}
use Rattle.rc_sitetext.proofs.entry.is_same.Goals as goal

pub returns : goal.returns
returns c = c.eq.ensures ∙ same_chars c.text.result.now c.text-2.result.now c.args.name.now c.args.other.now c.text.utf8 c.text-2.utf8 c.text.ensures.spelling c.text-2.ensures.spelling
