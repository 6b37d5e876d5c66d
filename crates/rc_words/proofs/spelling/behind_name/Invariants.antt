use Rattle.std.proofs.Common.{◌≡◌, length, chars}
use denote.Shadow.{shadow}
use denote.Text.{Utf8}
use Rattle.rc_words.specs.Spelling.{behind_name}
use Rattle.rc_words.proofs.spelling.behind_name.Given as goal

abbrev pub invariant-letters : goal.invariant-letters
invariant-letters l =
    shadow (Utf8 l.rest)
    × (behind_name l.letters (chars l.rest) ≡ behind_name l.fn.name (chars l.fn.text))

abbrev pub decreases-letters : goal.decreases-letters
decreases-letters l = length l.letters
