use Rattle.std.proofs.Common.{◌≡◌, length}
use Rattle.rc_failing.specs.declared.named.Named.{Named}
use Rattle.rc_failing.specs.Failing.{seen_failing}
use Rattle.drill.specs.Runs.{NamesCalls}
use Rattle.drill.proofs.mirror.name_calls.Given as goal

abbrev pub invariant-calls : goal.invariant-calls
invariant-calls l =
    ((end : Named) → NamesCalls l.rest l.site.named end → NamesCalls l.fn.calls l.fn.site.named end)
    × (seen_failing l.site ≡ seen_failing l.fn.site)

abbrev pub decreases-calls : goal.decreases-calls
decreases-calls l = length l.rest
