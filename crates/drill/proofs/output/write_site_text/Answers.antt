use Rattle.std.proofs.Common.{subst, sym, Bool}
use Rattle.rc_mem.specs.MemSite.{told_by}
use Rattle.rc_sitetext.specs.SiteText.{site_text}
use Rattle.drill.specs.Finishing.{OfFiles, Sent}
use Rattle.drill.specs.Printed.{end_text}
use Rattle.drill.proofs.output.write_site_text.Goals as goal

pub returns-else-printing-clause-sent : goal.returns-else-printing-clause-sent
returns-else-printing-clause-sent g c =
    let p = c.args.printing.now in
    subst (λ (d : Bool). OfFiles p.jobs (λ files. Sent g.K.Sink.tells c.write_whole.result (end_text d (site_text p.moment (told_by p.finished.site) files)) (g.K.Sink.received c.args.out.now) (g.K.Sink.received c.write_whole.new.out))) (sym c.if-printing.false) c.write_whole.ensures.sent
