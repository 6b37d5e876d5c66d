use Rattle.std.proofs.Common.{◌≡◌, ◌++◌, length, chars}
use denote.Text.{Utf8}
use denote.Shadow.{shadow}
use Rattle.rc_wild.specs.PathPattern.{parts_of}
use Rattle.rc_jobfiles.specs.Roots.{behind_each}
use Rattle.rc_jobfiles.proofs.roots.push_later.Given as goal

abbrev pub invariant-parts : goal.invariant-parts
invariant-parts l =
    shadow (Utf8 l.left)
    × (l.form.items ++ behind_each (parts_of (chars l.left)) ≡ l.fn.form.items ++ behind_each (parts_of (chars l.text)))

abbrev pub decreases-parts : goal.decreases-parts
decreases-parts l = length (parts_of (chars l.left))
