use Rattle.std.proofs.Common.{◌≡◌, length, chars}
use denote.Text.{Utf8}
use denote.Shadow.{shadow}
use Rattle.rc_wild.specs.PathPattern.{parts_of, behind_root}
use Rattle.rc_wild.proofs.parts.behind_root.Given as goal

abbrev pub invariant-parts : goal.invariant-parts
invariant-parts l =
    shadow (Utf8 l.roots) × shadow (Utf8 l.values)
    × (behind_root (parts_of (chars l.root)) (parts_of (chars l.value)) ≡ behind_root (parts_of (chars l.roots)) (parts_of (chars l.values)))

abbrev pub decreases-parts : goal.decreases-parts
decreases-parts l = length (parts_of (chars l.roots))
