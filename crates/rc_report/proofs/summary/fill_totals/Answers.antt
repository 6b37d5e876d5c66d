use Rattle.std.proofs.Common.{ap, ◌∙◌}
use Rattle.std.proofs.lemmas.Result.{on_ok_weaker}
use Rattle.rc_report.specs.Report.{summary_of}
use Rattle.rc_report.proofs.summary.fill_totals.Goals as goal

pub returns : goal.returns
returns c = on_ok_weaker c.fill_summary.result (λ e. e ∙ ap (summary_of c.args.plain) c.count_totals-totals.ensures) c.fill_summary.ensures
