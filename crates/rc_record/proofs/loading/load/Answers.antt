use Rattle.std.proofs.Common.{sym, ap, ◌∙◌}
use Rattle.rc_volume.specs.Site.{Told}
use Rattle.rc_record.proofs.Decided.{decided, plan_allowed, plan_opened}
use Rattle.rc_record.proofs.loading.load.Goals as goal

pub returns-in-Ok-clause-decided : goal.returns-in-Ok-clause-decided
returns-in-Ok-clause-decided g c = λ tells. decided c.read.result
    (g.S.Site.view c.args.site.now).log (g.S.Site.view c.durable_bytes.new.site).log
    (g.S.Site.view c.args.site.now).told (g.S.Site.view c.durable_bytes.new.site).told
    (c.in-Ok.ensures.log tells) (c.durable_bytes.ensures.frame.told tells)

pub returns-in-Ok-clause-allowed : goal.returns-in-Ok-clause-allowed
returns-in-Ok-clause-allowed g c = plan_allowed c.read.result _ c.read.ensures.record_of

pub returns-in-Ok-clause-opened : goal.returns-in-Ok-clause-opened
returns-in-Ok-clause-opened g c = λ tells.
    let old = g.S.Site.view c.args.site.now in
    let new = g.S.Site.view c.durable_bytes.new.site in
    let told = c.durable_bytes.ensures.frame.told tells in
    plan_opened c.read.result _ new c.read.ensures.record_of (c.deref.ensures.value ∙ c.in-Ok.ensures.bytes tells ∙ sym (ap (λ (told : Told). told.notes) told))
    (decided c.read.result old.log new.log old.told new.told (c.in-Ok.ensures.log tells) told)
