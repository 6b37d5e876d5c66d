use Rattle.std.proofs.Common.{◌≡◌, ◌≤◌, length}
use Rattle.rc_jobtext.specs.Lexing.{ahead}
use Rattle.rc_jobtext.specs.Starts.{prefixed, within}
use Rattle.rc_jobtext.proofs.word.read_chars.Given as goal

abbrev pub invariant-chars : goal.invariant-chars
invariant-chars l = record {
  reads : prefixed l.chars.items (ahead l.place (within l.inside) l.rest) ≡ prefixed l.fn.before.items (ahead l.place (within l.quoted) l.text);
  shorter : length l.rest ≤ length l.text;
}

abbrev pub decreases-chars : goal.decreases-chars
decreases-chars l = length l.rest
