use Rattle.std.proofs.Common.{inr}
use Rattle.robocopy.proofs.Named.{named_first}
use Rattle.robocopy.proofs.host.run_on_host.Goals as goal

pub returns-in-Ok-clause-bound : goal.returns-in-Ok-clause-bound
returns-in-Ok-clause-bound g c = λ none. named_first _ _ _ _ _ _ _ _ _ _ _ c.new-site.ensures.bound (c.robocopy_run-closed.ensures.mirrors (inr none))
