-- A line and its end.
use Rattle.std.proofs.Common.{◌≡◌, ℕ, ◌<◌, List, [], ◌∷◌, ◌++◌, length, sym, ap, ◌∙◌, arith}
use Rattle.std.specs.Str.{IsUtf8, chars, encode_utf8_all}
use Rattle.std.proofs.lemmas.Str.{encodes-chars}
use Rattle.robocopy.specs.Lines.{whole_line}

-- a line that is not empty got its end
pub line_ended : (text cs line : List ℕ) → chars text ≡ cs → IsUtf8 text → 0 < length text → line ≡ text ++ 10 ∷ [] → line ≡ whole_line cs
line_ended text [] line e utf8 some is =
    let none : [] ≡ text = ap encode_utf8_all (sym e) ∙ encodes-chars text utf8 in
    absurd (omega (arith, some, ap length none))
line_ended text (c ∷ cs) line e utf8 some is = is ∙ ap (λ (t : List ℕ). t ++ 10 ∷ []) (sym (ap encode_utf8_all (sym e) ∙ encodes-chars text utf8))

-- and an empty one is none
pub line_kept : (text cs : List ℕ) → chars text ≡ cs → length text ≡ 0 → text ≡ whole_line cs
unfolding chars
line_kept [] cs e none = ap whole_line e
line_kept (c ∷ text) cs e none = absurd (omega (arith, none))
