use Rattle.std.proofs.Common.{◌≡◌, true, subst}
use Rattle.std.specs.Prelude.{IfOk}
use Rattle.rc_volume.specs.Site.{ReadsFrom}
use Rattle.rc_mem.specs.declared.site.MemSite.{MemSite}
use Rattle.rc_mem.specs.MemSite.{told_by}
use Rattle.rc_mem.specs.Reading.{shared_at}
use Rattle.rc_stop.proofs.kept.KeptSiteSite.reader.Goals as goal

pub returns-clause-bytes : goal.returns-clause-bytes
returns-clause-bytes c = λ tells.
    subst (λ (s : MemSite). IfOk c.reader.result (λ reader. (true ≡ true) × ReadsFrom (told_by s).source c.args.wants.items (shared_at reader.files))) c.self.view_is (c.reader.ensures.bytes tells)
