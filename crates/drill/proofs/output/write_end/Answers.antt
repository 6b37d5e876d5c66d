use Rattle.std.proofs.Common.{◌++◌}
use Rattle.rc_mem.specs.MemSite.{told_by}
use Rattle.rc_sitetext.specs.SiteText.{site_text}
use Rattle.drill.specs.Printed.{end_text, status_lines}
use Rattle.drill.proofs.WrittenTexts.{sent_then}
use Rattle.drill.proofs.output.write_end.Goals as goal

pub returns-in-Ok-clause-sent : goal.returns-in-Ok-clause-sent
returns-in-Ok-clause-sent g c =
    let p = c.args.printing.now in
    let some = c.write_site_text.ensures.sent in (
      some.0,
      some.1,
      sent_then g.K.Sink.tells c.write_site_text.result (p.finished.report ++ status_lines p.finished.outcome) (end_text p.digests (site_text p.moment (told_by p.finished.site) some.0))
          (g.K.Sink.received c.args.out.now) (g.K.Sink.received c.write_report.new.out) (g.K.Sink.received c.write_site_text.new.out) c.in-Ok.ensures.sent.whole some.2,
    )
