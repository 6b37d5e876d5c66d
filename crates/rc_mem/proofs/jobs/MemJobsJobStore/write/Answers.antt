use Rattle.std.proofs.Common.{List, ℕ, Some, ap, subst, sym, ◌≢◌, ◌∙◌}
use Rattle.std.specs.FinMap.{get}
use Rattle.rc_mem.specs.declared.jobs.JobBytes.{JobBytes}
use Rattle.rc_mem.specs.MemJobs.{jobs_held}
use Rattle.rc_mem.proofs.Filed.{filed-put, put-here, put-others}
use Rattle.rc_mem.proofs.jobs.MemJobsJobStore.write.Goals as goal

pub invariant_of-self : goal.invariant_of-self
invariant_of-self c =
    let job : JobBytes = record { name = c.in_ok-name.name; bytes = c.in_ok-bytes.bytes } in
    filed-put c.self.inside.files c.insert.new.self c.in_ok-key.key job c.in-Ok.ensures.updates c.self.invariant c.in_ok-name.ensures.named

pub returns-in-Ok-clause-written : goal.returns-in-Ok-clause-written
returns-in-Ok-clause-written c = λ _.
    let job : JobBytes = record { name = c.in_ok-name.name; bytes = c.in_ok-bytes.bytes } in
    ap (get (jobs_held c.insert.new.self)) (sym c.in_ok-key.ensures.folded) ∙ put-here c.self.inside.files c.insert.new.self c.in_ok-key.key job c.in-Ok.ensures.updates ∙ ap Some c.in_ok-bytes.ensures.copied

pub returns-in-Ok-clause-others : goal.returns-in-Ok-clause-others
returns-in-Ok-clause-others c = λ _ other apart.
    let job : JobBytes = record { name = c.in_ok-name.name; bytes = c.in_ok-bytes.bytes } in
    put-others c.self.inside.files c.insert.new.self c.in_ok-key.key job c.in-Ok.ensures.updates c.args.self.now c.self.view_is other (subst (λ (k : List ℕ). other ≢ k) (sym c.in_ok-key.ensures.folded) apart)
