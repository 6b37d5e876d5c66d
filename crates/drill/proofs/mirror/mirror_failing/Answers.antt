use Rattle.std.proofs.Common.{subst, ap, List, ℕ}
use Rattle.rc_mem.specs.MemSite.{told_by}
use Rattle.rc_jobfiles.specs.Ask.{texts}
use Rattle.drill.specs.Finishing.{end_of, start_at}
use Rattle.drill.specs.Runs.{MayEnd}
use Rattle.drill.proofs.mirror.mirror_failing.Goals as goal

pub returns-in-Ok : goal.returns-in-Ok
returns-in-Ok c =
    let asked = c.args.asked.now in
    let start = start_at (told_by c.args.site) c.args.moment c.args.jobs.now in
    subst (λ (words : List (List ℕ)). MayEnd asked.calls.items asked.reads.items words start (end_of c.mirror_set_up.result c.mirror_set_up.new.jobs)) (ap (λ words. texts words) c.deref.ensures.value)
    (c.mirror_set_up.ensures asked.calls.items asked.reads.items (told_by c.args.site) c.in-Ok.ensures)
