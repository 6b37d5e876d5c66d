use Rattle.std.proofs.Common.{◌≡◌, ℕ, List, ◌++◌, ap, ◌∙◌}
use Rattle.std.proofs.lemmas.Result.{IfOk-weaker}
use Rattle.rc_job.specs.Settings.{canonical, written, settings, root_settings, missing_settings, deciding_settings, run_settings, shown_settings, layout_settings}
use Rattle.rc_job.proofs.LineLemmas.{both}
use Rattle.rc_job.proofs.job.Job.text.Goals as goal

pub returns : goal.returns
unfolding canonical
returns c =
    let job = c.args.self.now in
    let shown = shown_settings job ++ layout_settings job in
    let run = run_settings job ++ shown in
    let deciding = deciding_settings job ++ run in
    let all = both (root_settings job) (missing_settings job ++ deciding) _ _ _ c.in_ok-push_roots.ensures
    (both (missing_settings job) deciding _ _ _ c.in_ok-push_missing.ensures
    (both (deciding_settings job) run _ _ _ c.in_ok-push_deciding.ensures
    (both (run_settings job) shown _ _ _ c.in_ok-push_run.ensures
    (both (shown_settings job) (layout_settings job) _ _ _ c.in_ok-push_shown.ensures c.in_ok-push_layout.ensures)))) in
    IfOk-weaker c.into_text.result (λ text. text ≡ c.push_layout.new.lines) (λ text. text ≡ canonical job)
    (λ text is. is ∙ all ∙ ap (λ (cs : List ℕ). cs ++ written (settings job)) c.new-lines.ensures)
    c.into_text.ensures
