use Rattle.std.proofs.Common.{subst, ap, sym, ◌∙◌, List, ℕ}
use Rattle.std.proofs.lemmas.Result.{IfOk-weaker}
use Rattle.rc_mem.specs.MemSite.{told_by}
use Rattle.rc_jobfiles.specs.Ask.{texts}
use Rattle.drill.specs.Finishing.{end_of, start_at}
use Rattle.drill.specs.Runs.{Ends}
use Rattle.drill.proofs.Failures.{ends_failing, ends_whole}
use Rattle.drill.proofs.mirror.mirror.Goals as goal

pub returns-then-fails_nowhere : goal.returns-then-fails_nowhere
returns-then-fails_nowhere c =
    let asked = c.args.asked.now in
    let start = start_at (told_by c.args.site) c.args.moment c.args.jobs.now in
    let end = end_of c.mirror_whole.result c.mirror_whole.new.jobs in
    ends_whole asked.calls.items asked.reads.items (texts asked.words.items) start end (sym c.fails_nowhere.ensures ∙ c.if-fails_nowhere.true)
    (subst (λ (words : List (List ℕ)). Ends words start end) (ap (λ words. texts words) c.deref.ensures.value) c.mirror_whole.ensures)

pub returns-else-fails_nowhere : goal.returns-else-fails_nowhere
returns-else-fails_nowhere c =
    let asked = c.args.asked.now in
    let start = start_at (told_by c.args.site) c.args.moment c.args.jobs.now in
    IfOk-weaker c.mirror_failing.result _ _
    (λ finished ends. ends_failing asked.calls.items asked.reads.items (texts asked.words.items) start (end_of finished c.mirror_failing.new.jobs) (sym c.fails_nowhere.ensures ∙ c.if-fails_nowhere.false) ends)
    c.mirror_failing.ensures
