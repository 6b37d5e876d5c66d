use Rattle.std.proofs.Common.{◌++◌}
use Rattle.std.proofs.lemmas.Result.{on_ok_weaker}
use Rattle.rc_job.specs.Settings.{tree_settings, copied_settings, changed_settings, filter_settings, exclude_settings, class_settings, bound_settings}
use Rattle.rc_job.proofs.LineLemmas.{both}
use Rattle.rc_job.proofs.text.push_deciding.Goals as goal

pub returns : goal.returns
returns c =
    let job = c.args.job.now in
    let classes = class_settings job ++ bound_settings job in
    let excludes = exclude_settings job ++ classes in
    let filters = filter_settings job ++ excludes in
    let changes = changed_settings job ++ filters in
    on_ok_weaker c.push_bound.result
    (λ e. both (tree_settings job) (copied_settings job ++ changes) _ _ _ c.in_ok-push_tree.ensures
    (both (copied_settings job) changes _ _ _ c.in_ok-push_copied.ensures
    (both (changed_settings job) filters _ _ _ c.in_ok-push_changes.ensures
    (both (filter_settings job) excludes _ _ _ c.in_ok-push_filter.ensures
    (both (exclude_settings job) classes _ _ _ c.in_ok-push_excluded.ensures
    (both (class_settings job) (bound_settings job) _ _ _ c.in_ok-push_class.ensures e))))))
    c.push_bound.ensures
