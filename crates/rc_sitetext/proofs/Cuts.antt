-- Where texts are cut: at the next tab, at the next line end, behind the next letter.
use Rattle.std.proofs.Common.{◌≡◌, ◌≢◌, ℕ, suc, ◌<◌, true, false, eqb, List, [], ◌∷◌, ◌++◌, length, get_or, Some, None, refl, ap, arith, inl, inr}
use Rattle.std.proofs.lemmas.Bool.Decides.{eqb_tells}
use Rattle.std.proofs.lemmas.List.Elements.{All-from_get_or}
use Rattle.std.proofs.lemmas.List.Splits.{length-slice_split}
use Rattle.std.specs.List.{All}
use Rattle.rc_sitetext.specs.Faults.{lines_in}
use Rattle.rc_sitetext.specs.Reading.{cut, letter_at, starred_at, plain_at}

-- a byte that differs fails the test
apart : (b c : ℕ) → b ≢ c → eqb b c ≡ false
apart b c ne = elim (eqb_tells b c) [ inl same ↦ absurd (ne same.1) | inr other ↦ other.0 ]

itself : (c : ℕ) → eqb c c ≡ true
itself c = elim (eqb_tells c c) [ inl same ↦ same.0 | inr other ↦ absurd (other.1 refl) ]

-- a text is cut at the first such byte
pub cut_at : (c : ℕ) (front rest : List ℕ) → ((i : ℕ) → i < length front → get_or front i 0 ≢ c) → cut c (front ++ c ∷ rest) ≡ Some (front, rest)
unfolding cut
cut_at c [] rest none = rw (itself c) refl
cut_at c (b ∷ front) rest none =
    let ne : b ≢ c = none 0 (omega arith) in
    rw (apart b c ne, cut_at c front rest (λ i lt. none (suc i) (omega arith))) refl

-- and nowhere where there is none
pub cut_none : (c : ℕ) (text : List ℕ) → ((i : ℕ) → i < length text → get_or text i 0 ≢ c) → cut c text ≡ None
unfolding cut
cut_none c [] none = refl
cut_none c (b ∷ text) none =
    let ne : b ≢ c = none 0 (omega arith) in
    rw (apart b c ne, cut_none c text (λ i lt. none (suc i) (omega arith))) refl

-- no byte of the text ends a line
none_ends : (text : List ℕ) → ((i : ℕ) → i < length text → get_or text i 0 ≢ 10) → All (λ b. eqb b 10 ≡ false) text
none_ends text none = All-from_get_or (λ b. eqb b 10 ≡ false) text 0 (λ i lt. apart (get_or text i 0) 10 (none i lt))

-- there are parts
pub some_lines : (text : List ℕ) → eqb (length (lines_in text)) 0 ≡ false
some_lines text =
    let ne : length (lines_in text) ≢ 0 = λ e. omega (arith, length-slice_split (λ b. eqb b 10) text) in
    apart (length (lines_in text)) 0 ne

-- another letter comes next, or none
pub letter_none : (c : ℕ) (text : List ℕ) → ((rest : List ℕ) → text ≢ c ∷ rest) → letter_at c text ≡ (false, text)
letter_none c [] other = refl
letter_none c (b ∷ text) other =
    let ne : b ≢ c = λ e. other text (ap (λ (x : ℕ). x ∷ text) e) in
    rw (apart b c ne) refl

pub starred_none : (size : ℕ) (text : List ℕ) → ((rest : List ℕ) → text ≢ 42 ∷ rest) → starred_at size text ≡ plain_at size text
starred_none size [] other = refl
starred_none size (b ∷ text) other =
    let ne : b ≢ 42 = λ e. other text (ap (λ (x : ℕ). x ∷ text) e) in
    rw (apart b 42 ne) refl
