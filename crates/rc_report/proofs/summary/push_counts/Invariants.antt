use Rattle.std.proofs.Common.{◌≡◌, ◌++◌, true, take, string_bytes}
use Rattle.rc_report.specs.Report.{row_sizes}
use Rattle.rc_report.proofs.summary.push_counts.Given as goal

abbrev pub invariant-loop-count : goal.invariant-loop-count
invariant-loop-count l = string_bytes l.line ≡ string_bytes l.initial.line ++ row_sizes true (take l.count-index l.counts)
