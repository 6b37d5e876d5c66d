use Rattle.std.proofs.Common.{◌≡◌, ◌+◌, ◌-◌, ◌<◌, ◌≤◌, ◌++◌, true, vec_len}
use Rattle.drill.specs.declared.begin.TheConstants.{GREATEST_TEXT}
use Rattle.drill.proofs.begin.read_text.Given as goal

abbrev pub invariant-pieces : goal.invariant-pieces
invariant-pieces g l = record {
  some : 0 < vec_len l.buf;
  short : vec_len l.text ≤ GREATEST_TEXT;
  taken : g.I.Input.tells ≡ true → g.I.Input.rest l.fn.input ≡ l.text.items ++ g.I.Input.rest l.input;
  counts : g.I.Input.faults l.input ≡ g.I.Input.faults l.fn.input;
}

abbrev pub decreases-pieces : goal.decreases-pieces
decreases-pieces g l = GREATEST_TEXT + 1 - vec_len l.text
