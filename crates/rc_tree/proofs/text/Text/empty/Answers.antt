use Rattle.std.proofs.Common.{ap, ◌∙◌}
use Rattle.std.specs.Prelude.{chars}
use Rattle.std.proofs.lemmas.Str.{chars-nil}
use Rattle.rc_tree.proofs.text.Text.empty.Goals as goal

pub returns : goal.returns
returns c = ap chars c.new.ensures.bytes ∙ chars-nil
