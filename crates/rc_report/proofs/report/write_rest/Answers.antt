use Rattle.std.proofs.lemmas.Result.{on_ok_weaker, on_err_weaker}
use Rattle.rc_report.specs.Report.{lines_of, summary_part}
use Rattle.rc_report.proofs.FrontLemmas.{AppendsFront-first, AppendsFront-last, both_sent}
use Rattle.rc_report.proofs.report.write_rest.Goals as goal

pub returns-in-Ok-clause-written : goal.returns-in-Ok-clause-written
returns-in-Ok-clause-written g c tells =
    on_ok_weaker c.write_summary.result
    (both_sent (g.K.Sink.received c.args.sink.now) (lines_of c.args.job.now c.args.plan.now.items c.args.failed.now) (summary_part c.args.job.now c.args.plan.now.items c.args.failed.now) (g.K.Sink.received c.write_lines.new.sink) (g.K.Sink.received c.write_summary.new.sink) (c.in-Ok.ensures.written tells))
    (c.write_summary.ensures.written tells)

pub returns-in-Ok-clause-front : goal.returns-in-Ok-clause-front
returns-in-Ok-clause-front g c tells =
    on_err_weaker c.write_summary.result
    (AppendsFront-last (g.K.Sink.received c.args.sink.now) (lines_of c.args.job.now c.args.plan.now.items c.args.failed.now) (summary_part c.args.job.now c.args.plan.now.items c.args.failed.now) (g.K.Sink.received c.write_lines.new.sink) (g.K.Sink.received c.write_summary.new.sink) (c.in-Ok.ensures.written tells))
    (c.write_summary.ensures.front tells)

pub returns-in-Err-clause-front : goal.returns-in-Err-clause-front
returns-in-Err-clause-front g c tells =
    AppendsFront-first (g.K.Sink.received c.args.sink.now) (lines_of c.args.job.now c.args.plan.now.items c.args.failed.now) (summary_part c.args.job.now c.args.plan.now.items c.args.failed.now) (g.K.Sink.received c.write_lines.new.sink) (c.in-Err.ensures.front tells)
