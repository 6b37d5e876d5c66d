use Rattle.std.proofs.Common.{ap, map, ◌∙◌}
use Rattle.std.specs.FinMap.{entries}
use Rattle.rc_mem.specs.MemJobs.{filed}
use Rattle.rc_mem.proofs.Filed.{files-are}
use Rattle.rc_mem.proofs.jobs.MemJobs.files.Goals as goal

pub returns : goal.returns
returns c = ap (map filed) c.values.ensures.rest ∙ files-are c.self.inside.files c.self.invariant c.values.ensures.ordered ∙ ap entries c.self.view_is
