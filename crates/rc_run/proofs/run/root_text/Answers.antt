use Rattle.std.proofs.Common.{sym, ap}
use Rattle.std.specs.Str.{chars}
use Rattle.rc_run.specs.Words.{root_text}
use Rattle.rc_run.proofs.run.root_text.Goals as goal

pub returns-in-None : goal.returns-in-None
unfolding chars
returns-in-None c = ap root_text (sym c.in-None.is)
