use Rattle.std.proofs.Common.{ap, sym}
use Rattle.std.specs.Str.{chars}
use Rattle.rc_filter.specs.Matching.{root_text}
use Rattle.rc_filter.proofs.matching.root_text.Goals as goal

pub returns-in-None : goal.returns-in-None
unfolding chars
returns-in-None c = sym (ap root_text c.in-None.is)
