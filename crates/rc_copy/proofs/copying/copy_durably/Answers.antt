use Rattle.std.proofs.Common.{rules}
use Rattle.rc_volume.specs.declared.site.Part.TheVariants as part
use Rattle.rc_volume.proofs.ImageLemmas.{logs_then}
use Rattle.rc_copy.proofs.copying.copy_durably.Goals as goal

pub returns-in-Ok-clause-frame : goal.returns-in-Ok-clause-frame
returns-in-Ok-clause-frame g c = record {
  other_tree = search rules;
  notes = search rules;
  log = λ tells. logs_then part.Target _ _ _ (c.copy_each.ensures.frame.log tells) (c.sync.ensures.frame.log tells);
  opened = search rules;
  bound = search rules;
  counts = search rules;
}
