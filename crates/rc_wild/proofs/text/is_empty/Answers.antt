-- A text has no character where it has no byte.
use Rattle.rc_wild.proofs.Chars.{empty_chars}
use Rattle.std.proofs.Common.{◌∙◌}
use Rattle.rc_wild.proofs.text.is_empty.Goals as goal

pub returns : goal.returns
returns c = c.is_empty.ensures ∙ empty_chars c.args.text.now c.utf8.text
