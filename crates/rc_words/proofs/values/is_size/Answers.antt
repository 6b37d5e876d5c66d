-- A text is `SIZE` in bytes where it is in characters.
use Rattle.std.proofs.Common.{◌≡◌, refl, ◌∙◌}
use Rattle.std.specs.Prelude.{codes}
use Rattle.std.specs.Str.{chars}
use Rattle.std.proofs.Math.Utf8.{encodes}
use Rattle.rc_wild.proofs.Chars.{same_literal}
use Rattle.rc_words.proofs.values.is_size.Goals as goal

size-chars : chars (codes "SIZE") ≡ codes "SIZE"
unfolding chars
size-chars = refl

size-bytes : encodes (codes "SIZE") ≡ codes "SIZE"
unfolding lib.Utf8.encode
size-bytes = refl

pub returns : goal.returns
returns c = c.eq.ensures ∙ same_literal c.args.text.now (codes "SIZE") size-chars size-bytes c.utf8.text
