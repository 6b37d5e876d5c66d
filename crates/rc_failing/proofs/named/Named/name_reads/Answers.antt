use Rattle.std.proofs.Common.{ap, ◌∙◌, max}
use Rattle.rc_failing.proofs.Picked.{read-named}
use Rattle.rc_failing.proofs.named.Named.name_reads.Goals as goal

pub returns-clause-named : goal.returns-clause-named
returns-clause-named c =
    read-named _ c.args.times c.args.self.now c.insert.new.self c.in_ok-key.key c.max-most.result c.in_ok-key.ensures
    (c.max-most.ensures ∙ ap (λ n. max n c.args.times) c.times_of-had.ensures) c.in_ok-insert.ensures.updates
