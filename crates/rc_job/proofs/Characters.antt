-- What appending bytes to a text does to its characters.
use Rattle.std.proofs.Common.{◌≡◌, ℕ, ◌<◌, true, List, [], ◌∷◌, ◌++◌, length, ◌==◌, chars, refl, sym, ap, ◌∙◌, arith}
use Rattle.std.specs.Char.{is_ascii}
use Rattle.std.specs.List.{list_all}
use Rattle.std.specs.Str.{IsUtf8, IsAscii}
use Rattle.std.proofs.lemmas.Bool.{and_parts, ltb-true, ne_eqb}
use Rattle.std.proofs.Math.Utf8.{encodes}
use Rattle.std.proofs.lemmas.Str.{chars-append, chars-IsAscii, encodes-chars, length-le-encodes}
use Rattle.std.proofs.lemmas.Str.Ascii.{IsAscii-nil, IsAscii-cons}

pub pushed : (old new more cs view : List ℕ) → IsUtf8 old → chars old ≡ view → new ≡ old ++ more → chars more ≡ cs → chars new ≡ view ++ cs
pushed old new more cs view utf8 viewed e is =
    ap chars e ∙ chars-append old more utf8 ∙ ap (λ (xs : List ℕ). chars old ++ xs) is ∙ ap (λ (xs : List ℕ). xs ++ cs) viewed

pub one_char : (c : ℕ) → c < 128 → chars (c ∷ []) ≡ c ∷ []
one_char c h = chars-IsAscii (c ∷ []) (IsAscii-cons c [] h IsAscii-nil)

all_ascii : (bs : List ℕ) → list_all is_ascii bs ≡ true → IsAscii bs
all_ascii [] h = IsAscii-nil
all_ascii (b ∷ bs) h =
    let both = and_parts (is_ascii b) (list_all is_ascii bs) h in
    IsAscii-cons b bs (ltb-true b 128 both.0) (all_ascii bs both.1)

pub name_chars : (bs : List ℕ) → list_all is_ascii bs ≡ true → chars bs ≡ bs
name_chars bs h = chars-IsAscii bs (all_ascii bs h)

none_or_some : (bs cs : List ℕ) → encodes cs ≡ bs → (length bs == 0) ≡ (length cs == 0)
none_or_some [] [] e = refl
none_or_some [] (c ∷ cs) e = absurd (omega (arith, ap length e, length-le-encodes (c ∷ cs)))
none_or_some (b ∷ bs) [] e = absurd (omega (arith, ap length e))
none_or_some (b ∷ bs) (c ∷ cs) e = ne_eqb (length (b ∷ bs)) 0 (λ h. omega (arith, h)) ∙ sym (ne_eqb (length (c ∷ cs)) 0 (λ h. omega (arith, h)))

-- a text has no character where it has no byte
pub empty_chars : (bs : List ℕ) → IsUtf8 bs → (length bs == 0) ≡ (length (chars bs) == 0)
empty_chars bs utf8 = none_or_some bs (chars bs) (encodes-chars bs utf8)
