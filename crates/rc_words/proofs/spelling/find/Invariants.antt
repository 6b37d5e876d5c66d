use Rattle.std.proofs.Common.{◌≡◌, ◌+◌, length, map, chars}
use Rattle.rc_words.specs.Spelling.{spelled_among}
use Rattle.rc_words.specs.Table.{named}
use Rattle.rc_words.proofs.spelling.find.Given as goal

abbrev pub invariant-switches : goal.invariant-switches
invariant-switches l = record {
  ahead : spelled_among l.number (map named l.rest) (chars l.text) ≡ spelled_among 0 (map named l.fn.switches) (chars l.text);
  counted : l.number + length l.rest ≡ length l.fn.switches;
}

abbrev pub decreases-switches : goal.decreases-switches
decreases-switches l = length l.rest
