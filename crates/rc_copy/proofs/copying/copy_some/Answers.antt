use Rattle.rc_copy.proofs.ItemLemmas.{wants_within}
use Rattle.rc_copy.proofs.WantLemmas.{opens_whole}
use Rattle.std.proofs.Common.{rules}
use Rattle.rc_volume.specs.declared.site.Part.TheVariants as part
use Rattle.rc_volume.proofs.ImageLemmas.{logs_behind}
use Rattle.rc_copy.proofs.copying.copy_some.Goals as goal

pub open-requires-clause-within : goal.open-requires-clause-within
open-requires-clause-within g c κs within tells = wants_within _ c.args.copying.now.with_bytes c.args.items.now (c.requires.copyable tells)

pub returns-in-Ok-open-clause-opened : goal.returns-in-Ok-open-clause-opened
returns-in-Ok-open-clause-opened g c =
    opens_whole c.copy_durably.result c.args.copying.now.with_bytes c.args.items.now _ _ _ c.in-Ok-open.ensures.frame.opened c.copy_durably.ensures.frame.opened

pub returns-in-Ok-open-clause-frame : goal.returns-in-Ok-open-clause-frame
returns-in-Ok-open-clause-frame g c = record {
  source = search rules;
  notes = search rules;
  log = λ tells. logs_behind part.Target _ _ _ (c.open.ensures.frame.log tells) (c.copy_durably.ensures.frame.log tells);
  bound = search rules;
  counts = search rules;
}
