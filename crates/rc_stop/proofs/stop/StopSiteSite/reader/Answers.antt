use Rattle.std.proofs.Common.{◌≡◌, true, subst}
use Rattle.std.specs.Prelude.{IfOk}
use Rattle.rc_volume.specs.Site.{ReadsFrom}
use Rattle.rc_mem.specs.declared.site.MemSite.{MemSite}
use Rattle.rc_mem.specs.Reading.{shared_at}
use Rattle.rc_stop.proofs.stop.StopSiteSite.reader.Goals as goal

pub returns-clause-bytes : goal.returns-clause-bytes
returns-clause-bytes c = λ tells.
    subst (λ (s : MemSite). IfOk c.reader.result (λ reader. (true ≡ true) × ReadsFrom s.source c.args.wants.items (shared_at reader.files))) c.fails.ensures.kept (c.reader.ensures.bytes tells)
