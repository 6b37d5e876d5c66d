use Rattle.std.proofs.Common.{◌≡◌, ℕ, List, subst, ◌∙◌}
use Rattle.std.proofs.lemmas.Result.{on_err_weaker}
use Rattle.rc_volume.specs.Streams.{AppendsFront}
use Rattle.rc_report.specs.Report.{summary_of, summary_part}
use Rattle.rc_report.specs.Totals.{totals_of}
use Rattle.rc_report.proofs.FrontLemmas.{part_stands}
use Rattle.rc_report.proofs.report.write_summary.Goals as goal

pub returns-in-Ok-clause-front : goal.returns-in-Ok-clause-front
returns-in-Ok-clause-front g c tells =
    let job = c.args.job.now in
    let items = c.args.plan.now.items in
    let failed = c.args.failed.now in
    let text : c.as_bytes.result.now ≡ summary_part job items failed =
    c.as_bytes.ensures.value ∙ c.in-Ok.ensures ∙ part_stands job.njs (summary_of job.plain_bytes (totals_of items failed)) c.if-job.false in
    on_err_weaker c.send.result
    (λ front. subst (λ (bs : List ℕ). AppendsFront (g.K.Sink.received c.args.sink.now) bs (g.K.Sink.received c.send.new.sink)) text front)
    (c.send.ensures.front tells)
