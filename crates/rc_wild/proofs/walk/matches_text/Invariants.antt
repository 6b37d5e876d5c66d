use Rattle.std.proofs.Common.{chars}
use denote.Text.{Utf8}
use denote.Shadow.{shadow}
use Rattle.rc_wild.proofs.Turns.{IsWalk, turns_left}
use Rattle.rc_wild.proofs.walk.matches_text.Given as goal

abbrev pub invariant-turns : goal.invariant-turns
invariant-turns l = shadow (Utf8 l.ahead) × shadow (Utf8 l.left) × IsWalk (chars l.pattern) (chars l.text) (chars l.ahead) (chars l.left) l.back

abbrev pub decreases-turns : goal.decreases-turns
decreases-turns l = turns_left (chars l.pattern) (chars l.text) (chars l.ahead) l.back
