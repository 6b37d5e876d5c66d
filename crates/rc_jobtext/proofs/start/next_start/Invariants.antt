use Rattle.std.proofs.Common.{◌≡◌, ◌+◌, ◌≤◌, length}
use Rattle.rc_jobtext.specs.Lexing.{Between, ahead}
use Rattle.rc_jobtext.specs.Starts.{outside_words}
use Rattle.rc_jobtext.proofs.start.next_start.Given as goal

abbrev pub invariant-gaps : goal.invariant-gaps
invariant-gaps l = record {
  reads : ahead l.line (outside_words l.in_comment) l.rest ≡ ahead l.place Between l.text;
  counted : l.line + length l.rest ≤ l.place + length l.text;
  shorter : length l.rest ≤ length l.text;
}

abbrev pub decreases-gaps : goal.decreases-gaps
decreases-gaps l = length l.rest
