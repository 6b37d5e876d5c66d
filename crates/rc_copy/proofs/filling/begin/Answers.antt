use Rattle.std.proofs.Common.{rules}
use Rattle.rc_volume.specs.declared.site.Part.TheVariants.{Target}
use Rattle.rc_volume.proofs.ImageLemmas.{logs_behind}
use Rattle.rc_copy.proofs.filling.begin.Goals as goal

pub returns-in-Ok-None-clause-frame : goal.returns-in-Ok-None-clause-frame
returns-in-Ok-None-clause-frame g c = record {
  here = search rules;
  elsewhere = search rules;
  log = λ tells. logs_behind Target _ _ _ (c.stat.ensures.frame.log tells) (c.make.ensures.frame.log tells);
  opened = search rules;
  bound = search rules;
  counts = search rules;
}
