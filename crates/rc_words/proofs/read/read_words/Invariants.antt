use Rattle.std.proofs.Common.{length}
use Rattle.rc_words.proofs.Readings.{IsRead}
use Rattle.rc_words.proofs.read.read_words.Given as goal

abbrev pub invariant-words : goal.invariant-words
invariant-words l = IsRead l.in_file l.words l.reader l.settings.items l.place l.rest

abbrev pub decreases-words : goal.decreases-words
decreases-words l = length l.rest
