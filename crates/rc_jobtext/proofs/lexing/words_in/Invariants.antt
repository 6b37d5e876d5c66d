use Rattle.std.proofs.Common.{◌≡◌, ◌+◌, ◌≤◌, length}
use Rattle.rc_jobtext.specs.Lexing.{Between, ahead, words_in}
use Rattle.rc_jobtext.proofs.Parts.{words_behind}
use Rattle.rc_jobtext.proofs.lexing.words_in.Given as goal

abbrev pub invariant-words : goal.invariant-words
invariant-words l = record {
  reads : words_behind l.words.items (ahead l.place Between l.rest) ≡ words_in l.text;
  counted : l.place + length l.rest ≤ 1 + length l.text;
}

abbrev pub decreases-words : goal.decreases-words
decreases-words l = length l.rest
