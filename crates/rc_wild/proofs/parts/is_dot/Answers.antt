-- A text is `.` in bytes where it is in characters.
use Rattle.std.proofs.Common.{◌≡◌, refl, ◌∙◌}
use Rattle.std.specs.Prelude.{codes}
use Rattle.std.specs.Str.{chars}
use Rattle.std.proofs.Math.Utf8.{encodes}
use Rattle.rc_wild.proofs.Chars.{same_literal}
use Rattle.rc_wild.proofs.parts.is_dot.Goals as goal

dot-chars : chars (codes ".") ≡ codes "."
unfolding chars
dot-chars = refl

dot-bytes : encodes (codes ".") ≡ codes "."
unfolding lib.Utf8.encode
dot-bytes = refl

pub returns : goal.returns
returns c = c.eq.ensures ∙ same_literal c.args.text.now (codes ".") dot-chars dot-bytes c.utf8.text
