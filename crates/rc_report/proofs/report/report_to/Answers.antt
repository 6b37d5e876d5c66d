use Rattle.std.proofs.Common.{◌++◌}
use Rattle.std.proofs.lemmas.Result.{on_ok_weaker, on_err_weaker}
use Rattle.rc_report.specs.Report.{header_part, lines_of, summary_part}
use Rattle.rc_report.proofs.FrontLemmas.{AppendsFront-first, AppendsFront-last, both_sent}
use Rattle.rc_report.proofs.report.report_to.Goals as goal

pub returns-in-Ok-clause-written : goal.returns-in-Ok-clause-written
returns-in-Ok-clause-written g c tells =
    let header = header_part c.args.job.now c.args.plan.now.moment in
    let rest = lines_of c.args.job.now c.args.plan.now.items c.args.failed.now ++ summary_part c.args.job.now c.args.plan.now.items c.args.failed.now in
    on_ok_weaker c.write_rest.result
    (both_sent (g.K.Sink.received c.args.sink.now) header rest (g.K.Sink.received c.write_header.new.sink) (g.K.Sink.received c.write_rest.new.sink) (c.in-Ok.ensures.written tells))
    (c.write_rest.ensures.written tells)

pub returns-in-Ok-clause-front : goal.returns-in-Ok-clause-front
returns-in-Ok-clause-front g c tells =
    let header = header_part c.args.job.now c.args.plan.now.moment in
    let rest = lines_of c.args.job.now c.args.plan.now.items c.args.failed.now ++ summary_part c.args.job.now c.args.plan.now.items c.args.failed.now in
    on_err_weaker c.write_rest.result
    (AppendsFront-last (g.K.Sink.received c.args.sink.now) header rest (g.K.Sink.received c.write_header.new.sink) (g.K.Sink.received c.write_rest.new.sink) (c.in-Ok.ensures.written tells))
    (c.write_rest.ensures.front tells)

pub returns-clause-front : goal.returns-clause-front
returns-clause-front g c tells =
    AppendsFront-first (g.K.Sink.received c.args.sink.now) (header_part c.args.job.now c.args.plan.now.moment)
    (lines_of c.args.job.now c.args.plan.now.items c.args.failed.now ++ summary_part c.args.job.now c.args.plan.now.items c.args.failed.now)
    (g.K.Sink.received c.write_header.new.sink) (c.in-Err.ensures.front tells)
