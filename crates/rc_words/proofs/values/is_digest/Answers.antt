-- A text is `DIGEST` in bytes where it is in characters.
use Rattle.std.proofs.Common.{◌≡◌, refl, ◌∙◌}
use Rattle.std.specs.Prelude.{codes}
use Rattle.std.specs.Str.{chars}
use Rattle.std.proofs.Math.Utf8.{encodes}
use Rattle.rc_wild.proofs.Chars.{same_literal}
use Rattle.rc_words.proofs.values.is_digest.Goals as goal

digest-chars : chars (codes "DIGEST") ≡ codes "DIGEST"
unfolding chars
digest-chars = refl

digest-bytes : encodes (codes "DIGEST") ≡ codes "DIGEST"
unfolding lib.Utf8.encode
digest-bytes = refl

pub returns : goal.returns
returns c = c.eq.ensures ∙ same_literal c.args.text.now (codes "DIGEST") digest-chars digest-bytes c.utf8.text
