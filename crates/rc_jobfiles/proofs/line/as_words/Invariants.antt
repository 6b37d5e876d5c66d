use Rattle.std.proofs.Common.{◌≡◌, ◌++◌, length, map}
use Rattle.rc_jobfiles.specs.Ask.{texts, as_word}
use Rattle.rc_jobfiles.proofs.line.as_words.Given as goal

abbrev pub invariant-words : goal.invariant-words
invariant-words l = l.made.items ++ map as_word (texts l.rest) ≡ map as_word (texts l.fn.words)

abbrev pub decreases-words : goal.decreases-words
decreases-words l = length l.rest
