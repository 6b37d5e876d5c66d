use Rattle.std.proofs.Common.{◌≡◌, length}
use Rattle.rc_failing.specs.declared.named.Named.{Named}
use Rattle.rc_failing.specs.Failing.{seen_failing}
use Rattle.drill.specs.Runs.{NamesAllReads}
use Rattle.drill.proofs.mirror.name_reads.Given as goal

abbrev pub invariant-reads : goal.invariant-reads
invariant-reads l =
    ((end : Named) → NamesAllReads l.rest l.site.named end → NamesAllReads l.fn.reads l.fn.site.named end)
    × (seen_failing l.site ≡ seen_failing l.fn.site)

abbrev pub decreases-reads : goal.decreases-reads
decreases-reads l = length l.rest
