use Rattle.std.proofs.Common.{◌≡◌, ◌++◌, true, take}
use Rattle.std.specs.List.{flat_map}
use Rattle.rc_report.specs.Report.{line_of}
use Rattle.rc_report.specs.Totals.{reported}
use Rattle.rc_report.proofs.report.write_lines.Given as goal

abbrev pub invariant-loop-place : goal.invariant-loop-place
invariant-loop-place g l = record {
  received : g.K.Sink.tells ≡ true → g.K.Sink.received l.sink ≡ g.K.Sink.received l.initial.sink ++ flat_map (line_of l.job) (take l.place (reported l.plan.items l.failed));
  counts : g.K.Sink.faults l.sink ≡ g.K.Sink.faults l.initial.sink;
}
