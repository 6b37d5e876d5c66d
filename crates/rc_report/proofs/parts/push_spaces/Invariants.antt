use Rattle.std.proofs.Common.{◌≡◌, ◌-◌, ◌≤◌, ◌++◌, replicate, string_bytes}
use Rattle.rc_report.proofs.parts.push_spaces.Given as goal

abbrev pub invariant-loop : goal.invariant-loop
invariant-loop l = record {
  spaces : string_bytes l.line ≡ string_bytes l.initial.line ++ replicate (l.counter - l.from) 32;
  within : l.counter - l.from ≤ l.to - l.from;
}
