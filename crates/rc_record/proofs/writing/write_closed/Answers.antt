use Rattle.std.proofs.Common.{length}
use Rattle.rc_volume.specs.Faults.{part_cause}
use Rattle.rc_volume.specs.declared.site.Part.TheVariants.{Record}
use Rattle.rc_record.specs.Writing.{StandsForNothing}
use Rattle.rc_record.proofs.Since.{changes_then, since_on}
use Rattle.rc_record.proofs.writing.write_closed.Goals as goal

pub returns-in-Ok-clause-frame : goal.returns-in-Ok-clause-frame
returns-in-Ok-clause-frame g c =
    changes_then g.S.Site.tells (part_cause Record c.write_behind.result) (g.S.Site.view c.args.site.now) (g.S.Site.view c.close.new.site) (g.S.Site.view c.write_behind.new.site) c.in-Ok.ensures.frame c.write_behind.ensures.frame

pub returns-in-Ok-clause-images : goal.returns-in-Ok-clause-images
returns-in-Ok-clause-images g c = λ tells each.
    since_on (g.S.Site.view c.close.new.site).log (g.S.Site.view c.write_behind.new.site).log (length (g.S.Site.view c.args.site.now).log) StandsForNothing (c.write_behind.ensures.log tells)
    (c.close.ensures.images tells each) (c.write_behind.ensures.images tells)
