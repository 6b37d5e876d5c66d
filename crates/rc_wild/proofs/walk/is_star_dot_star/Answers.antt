-- A text is `*.*` in bytes where it is in characters.
use Rattle.std.proofs.Common.{◌≡◌, refl, ◌∙◌}
use Rattle.std.specs.Prelude.{codes}
use Rattle.std.specs.Str.{chars}
use Rattle.std.proofs.Math.Utf8.{encodes}
use Rattle.rc_wild.proofs.Chars.{same_literal}
use Rattle.rc_wild.proofs.walk.is_star_dot_star.Goals as goal

literal-chars : chars (codes "*.*") ≡ codes "*.*"
unfolding chars
literal-chars = refl

literal-bytes : encodes (codes "*.*") ≡ codes "*.*"
unfolding lib.Utf8.encode
literal-bytes = refl

pub returns : goal.returns
returns c = c.eq.ensures ∙ same_literal c.args.pattern.now (codes "*.*") literal-chars literal-bytes c.utf8.pattern
