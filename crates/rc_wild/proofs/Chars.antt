-- When a text has characters.
use Rattle.std.proofs.Common.{◌≡◌, ℕ, Bool, true, false, List, [], ◌∷◌, length, ◌==◌, chars, refl, sym, ap, ◌∙◌, arith}
use Rattle.std.proofs.Math.Utf8.{encodes}
use Rattle.std.specs.Str.{IsUtf8, bytes_eq}
use Rattle.std.proofs.lemmas.Slice.Eq.{bytes_eq-Decides}
use Rattle.std.proofs.lemmas.Str.{chars-nil, encodes-chars, length-le-encodes}
use Rattle.std.proofs.lemmas.Bool.{ne_eqb}

pub empty_list : (xs : List ℕ) → length xs ≡ 0 → xs ≡ []
empty_list [] e = refl
empty_list (x ∷ xs) e = absurd (omega arith)

pub no_chars : (bs : List ℕ) → length bs ≡ 0 → chars bs ≡ []
no_chars [] e = chars-nil
no_chars (b ∷ bs) e = absurd (omega arith)

count_or_none : (bs cs : List ℕ) → encodes cs ≡ bs → (length bs == 0) ≡ (length cs == 0)
count_or_none [] [] e = refl
count_or_none [] (c ∷ cs) e = absurd (omega (arith, ap length e, length-le-encodes (c ∷ cs)))
count_or_none (b ∷ bs) [] e = absurd (omega (arith, ap length e))
count_or_none (b ∷ bs) (c ∷ cs) e = ne_eqb (length (b ∷ bs)) 0 (λ h. omega (arith, h)) ∙ sym (ne_eqb (length (c ∷ cs)) 0 (λ h. omega (arith, h)))

pub empty_chars : (bs : List ℕ) → IsUtf8 bs → (length bs == 0) ≡ (length (chars bs) == 0)
empty_chars bs utf8 = count_or_none bs (chars bs) (encodes-chars bs utf8)

-- two tests whose facts imply one another
same_tests : (a b : Bool) → (a ≡ true → b ≡ true) → (b ≡ true → a ≡ true) → a ≡ b
same_tests true true h k = refl
same_tests true false h k = sym (h refl)
same_tests false true h k = k refl
same_tests false false h k = refl

-- a text is an ASCII literal in bytes where it is one in characters
pub same_literal : (bs literal : List ℕ) → chars literal ≡ literal → encodes literal ≡ literal → IsUtf8 bs → bytes_eq bs literal ≡ bytes_eq (chars bs) literal
same_literal bs literal as_chars as_bytes utf8 =
    same_tests (bytes_eq bs literal) (bytes_eq (chars bs) literal)
    (λ e. (bytes_eq-Decides (chars bs) literal).1 (ap chars ((bytes_eq-Decides bs literal).0 e) ∙ as_chars))
    (λ e. (bytes_eq-Decides bs literal).1 (sym (encodes-chars bs utf8) ∙ ap encodes ((bytes_eq-Decides (chars bs) literal).0 e) ∙ as_bytes))
