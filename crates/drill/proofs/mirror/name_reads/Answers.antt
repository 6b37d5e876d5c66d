use Rattle.std.proofs.Common.{◌∙◌, length, take, drop, ◌-◌}
use Rattle.drill.proofs.Failures.{begins, reads_on}
use Rattle.drill.proofs.mirror.name_reads.Goals as goal

pub reads-preserved : goal.reads-preserved
reads-preserved c =
    let rest = c.reads.rest.now in
    let next = begins rest c.first-item.result c.in-len1-up.len_at_least c.first-item.is in (
      reads_on c.args.reads.now rest (take (length rest - 1) (drop 1 rest)) c.first-item.result c.args.site.now.named c.reads.site.named c.fail_reads.new.self.named next c.reads.invariant.0 c.in-Ok.ensures.named,
      c.fail_reads.ensures.seen ∙ c.reads.invariant.1,
    )

pub returns-in-Err-clause-seen : goal.returns-in-Err-clause-seen
returns-in-Err-clause-seen c = c.fail_reads.ensures.seen ∙ c.reads.invariant.1
