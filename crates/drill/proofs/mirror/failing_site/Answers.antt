use Rattle.std.proofs.Common.{subst, List}
use Rattle.rc_drillwords.specs.declared.reading.FailingCall.{FailingCall}
use Rattle.rc_drillwords.specs.declared.reading.FailingReads.{FailingReads}
use Rattle.drill.specs.Runs.{NamesAllReads, NamesCalls}
use Rattle.drill.proofs.Failures.{set_up}
use Rattle.drill.proofs.mirror.failing_site.Goals as goal

pub returns : goal.returns
returns c =
    set_up c.args.asked.now.calls.items c.args.asked.now.reads.items c.args.site c.new-failing.result c.name_calls.new.site c.name_reads.new.site c.requires c.new-failing.ensures.behind c.new-failing.ensures.nowhere c.new-failing.ensures.faults
    (subst (λ (calls : List FailingCall). NamesCalls calls c.new-failing.result.named c.name_calls.new.site.named) c.deref.ensures.value c.in_ok-name_calls.ensures.named) c.name_calls.ensures.seen
    (subst (λ (reads : List FailingReads). NamesAllReads reads c.name_calls.new.site.named c.name_reads.new.site.named) c.deref-2.ensures.value c.in_ok-name_reads.ensures.named) c.name_reads.ensures.seen
