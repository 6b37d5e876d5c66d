use Rattle.std.proofs.Common.{◌≡◌, ◌++◌, take, string_bytes}
use Rattle.rc_report.specs.Report.{row_sizes}
use Rattle.rc_report.proofs.summary.push_bytes.Given as goal

abbrev pub invariant-loop-size : goal.invariant-loop-size
invariant-loop-size l = string_bytes l.line ≡ string_bytes l.initial.line ++ row_sizes l.plain (take l.size-index l.sizes)
