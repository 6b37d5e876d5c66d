use Rattle.std.proofs.Common.{◌≡◌, length, chars}
use Rattle.std.specs.Prelude.{not, ◌&&◌, ◌||◌}
use Rattle.std.specs.List.{list_any}
use denote.Shadow.{shadow}
use denote.Text.{Utf8}
use Rattle.rc_wild.specs.PathPattern.{is_separator}
use Rattle.rc_jobfiles.specs.Resolving.{has_dot}
use Rattle.rc_jobfiles.proofs.naming.has_dot.Given as goal

abbrev pub invariant-chars : goal.invariant-chars
invariant-chars l =
    shadow (Utf8 l.rest)
    × (((l.dotted && not (list_any is_separator (chars l.rest))) || has_dot (chars l.rest)) ≡ has_dot (chars l.name))

abbrev pub decreases-chars : goal.decreases-chars
decreases-chars l = length (chars l.rest)
