use Rattle.rc_copy.proofs.SyncLemmas.{durable_by}
use Rattle.rc_copy.proofs.copying.sync.Goals as goal

pub returns-in-Ok-clause-durable : goal.returns-in-Ok-clause-durable
returns-in-Ok-clause-durable g c = λ tells. durable_by (g.S.Site.view c.args.site.now) (g.S.Site.view c.sync.new.self) (c.sync.ensures.tree tells) (c.sync.ensures.frame.told tells) (c.in-Ok.ensures.log tells)
