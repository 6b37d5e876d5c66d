use Rattle.std.proofs.Common.{◌≡◌, true, length, chars}
use denote.Shadow.{shadow}
use denote.Text.{Utf8}
use Rattle.std.specs.Char.{is_ascii_digit}
use Rattle.std.specs.List.{list_all}
use Rattle.rc_words.specs.Values.{number_in}
use Rattle.rc_words.proofs.values.number_in.Given as goal

abbrev pub invariant-digits : goal.invariant-digits
invariant-digits l =
    shadow (Utf8 l.rest)
    × (number_in l.number (chars l.rest) ≡ number_in 0 (chars l.fn.text))
    × (list_all is_ascii_digit (chars l.rest) ≡ true)

abbrev pub decreases-digits : goal.decreases-digits
decreases-digits l = length (chars l.rest)
