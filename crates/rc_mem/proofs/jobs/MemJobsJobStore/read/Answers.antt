use Rattle.std.proofs.Common.{Some, ap, sym, ◌∙◌}
use Rattle.std.specs.Prelude.{option_map}
use Rattle.std.specs.FinMap.{get}
use Rattle.rc_mem.specs.declared.jobs.JobBytes.{JobBytes}
use Rattle.rc_mem.proofs.Filed.{get-jobs}
use Rattle.rc_mem.proofs.jobs.MemJobsJobStore.read.Goals as goal

pub returns-in-Some-clause-found : goal.returns-in-Some-clause-found
returns-in-Some-clause-found c = λ _.
    ap Some (c.in_ok-copy_bytes-in-Some.ensures.copied ∙ c.as_slice.ensures.value) ∙ ap (option_map (λ (job : JobBytes). job.bytes.items)) c.in-Some.ensures.value ∙ sym (get-jobs c.self.inside.files c.in_ok-key.key)
    ∙ ap (λ t. get t c.in_ok-key.key) c.self.view_is ∙ ap (get c.args.self.now) c.in_ok-key.ensures.folded

pub returns-clause-found : goal.returns-clause-found
returns-clause-found c = λ _.
    ap (option_map (λ (job : JobBytes). job.bytes.items)) c.in-None.ensures.value ∙ sym (get-jobs c.self.inside.files c.in_ok-key.key)
    ∙ ap (λ t. get t c.in_ok-key.key) c.self.view_is ∙ ap (get c.args.self.now) c.in_ok-key.ensures.folded
