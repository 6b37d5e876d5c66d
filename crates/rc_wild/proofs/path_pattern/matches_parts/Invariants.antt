use Rattle.std.proofs.Common.{◌≡◌, chars, drop}
use denote.Text.{Utf8}
use denote.Shadow.{shadow}
use Rattle.rc_wild.specs.PathPattern.{parts_of, matches_parts}
use Rattle.rc_wild.proofs.path_pattern.matches_parts.Given as goal

abbrev pub invariant-names : goal.invariant-names
invariant-names l =
    shadow (Utf8 l.left)
    × (matches_parts (parts_of (chars l.parts)) l.names ≡ matches_parts (parts_of (chars l.left)) (drop l.name-index l.names))
