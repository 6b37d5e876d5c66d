-- The character 0 is one byte.
use Rattle.std.proofs.Common.{◌≡◌, ◌++◌, ◌∷◌, [], string_bytes, ap, ◌∙◌, refl}
use Rattle.std.specs.Str.{chars}
use Rattle.std.proofs.lemmas.Str.{chars-append, IsUtf8-string_bytes}
use Rattle.rc_tree.proofs.text.Text.folded_below.Goals as goal

chars-zero : chars (0 ∷ []) ≡ 0 ∷ []
unfolding chars
chars-zero = refl

pub returns : goal.returns
unfolding lib.Utf8.encode
returns c =
    let front = c.text.inside.text in
    ap chars c.in_ok-push.ensures.bytes ∙ chars-append (string_bytes front) (0 ∷ []) (IsUtf8-string_bytes front)
    ∙ ap (λ cs. chars (string_bytes front) ++ cs) chars-zero ∙ ap (λ cs. cs ++ 0 ∷ []) (c.text.view_is ∙ c.in_ok-text.ensures)
