use Rattle.std.proofs.Common.{◌++◌, ◌∙◌, ap, List, ℕ}
use Rattle.drill.specs.Printed.{status_lines}
use Rattle.drill.proofs.WrittenTexts.{sent_then}
use Rattle.drill.proofs.output.write_report.Goals as goal

pub returns-in-Ok-clause-sent : goal.returns-in-Ok-clause-sent
returns-in-Ok-clause-sent g c =
    let old = g.K.Sink.received c.args.out.now in
    sent_then g.K.Sink.tells c.write_status.result c.args.finished.now.report (status_lines c.args.finished.now.outcome) old (g.K.Sink.received c.write.new.self) (g.K.Sink.received c.write_status.new.out)
    (λ told. c.in-Ok.ensures.written told ∙ ap (λ (t : List ℕ). old ++ t) c.bytes.ensures) c.write_status.ensures.sent
