use Rattle.std.proofs.Common.{arith}
use Rattle.rc_volume.specs.declared.site.Part.TheVariants.{Record}
use Rattle.rc_stop.proofs.stop.StopSite.change_notes.Goals as goal

pub returns-in-Ok-clause-cause : goal.returns-in-Ok-clause-cause
returns-in-Ok-clause-cause c = (omega (arith, c.count.ensures.counts.0, c.runs.ensures.counts Record), λ at. omega (arith, c.count.ensures.counts.1 at, c.runs.ensures.counts at))
