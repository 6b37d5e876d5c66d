use Rattle.std.proofs.Common.{◌≡◌, length, chars}
use denote.Text.{Utf8}
use denote.Shadow.{shadow}
use Rattle.rc_wild.specs.PathPattern.{parts_of}
use Rattle.rc_wild.proofs.parts.next_part.Given as goal

abbrev pub invariant-parts : goal.invariant-parts
invariant-parts l = shadow (Utf8 l.left) × (parts_of (chars l.text) ≡ parts_of (chars l.left))

abbrev pub decreases-parts : goal.decreases-parts
decreases-parts l = length l.left
