use Rattle.rc_mem.specs.MemSite.{told_by}
use Rattle.rc_sitetext.specs.SiteText.{site_text}
use Rattle.drill.proofs.WrittenTexts.{sent_files}
use Rattle.drill.proofs.output.write_whole.Goals as goal

pub returns-clause-sent : goal.returns-clause-sent
returns-clause-sent g c =
    sent_files g.K.Sink.tells c.write_site.result c.args.jobs.now (λ files. site_text c.args.moment (told_by c.args.site.now) files) (g.K.Sink.received c.args.out.now) (g.K.Sink.received c.write_site.new.out)
    c.have_some_spelling.ensures c.write_site.ensures.written c.write_site.ensures.front
