-- What decimal digits write.
use Rattle.std.proofs.Common.{◌≡◌, ◌≢◌, ℕ, ◌^◌, ◌<◌, ◌≤◌, true, false, ◌&&◌, cond, ltb, leb, List, [], ◌∷◌, length, get_or, Option, Some, None, Result, Ok, Err, Bool, refl, sym, ap, subst, arith, true≢false}
use Rattle.std.specs.Char.{is_ascii_digit}
use Rattle.std.specs.Result.{OkIff}
use Rattle.std.specs.Str.{all_ascii_digits}
use Rattle.std.specs.Str.Parse.{ParsesUnsigned, digits_value}
use Rattle.std.proofs.lemmas.Bool.{le-leb, leb-true, lt-ltb, ltb-true, and_parts}
use Rattle.std.proofs.lemmas.Str.Parse.{IsNumeralModel, numerals_by_value, tells_all_ascii_digits, parse_plain}
use Rattle.rc_drillwords.specs.Arguments.{number_in}

numerals : IsNumeralModel (λ ds. all_ascii_digits ds ≡ true) (digits_value 10)
numerals = numerals_by_value (λ ds. all_ascii_digits ds ≡ true) tells_all_ascii_digits

no_plus : (text : List ℕ) → all_ascii_digits text ≡ true → get_or text 0 0 ≢ 43
no_plus [] digits = λ e. omega (arith, e)
no_plus (b ∷ text) digits = λ e. absurd (true≢false (sym (subst (λ (x : ℕ). is_ascii_digit x ≡ true) e (and_parts (is_ascii_digit b) (all_ascii_digits text) digits).0)))

none_unless : {A : Type 0} (b : Bool) (x : A) → (b ≡ true → ⊥) → cond b (Some x) None ≡ None
none_unless true x never = absurd (never refl)
none_unless false x never = refl

-- what has another character is none
pub number_other : (most : ℕ) (text : List ℕ) → all_ascii_digits text ≡ false → number_in most text ≡ None
unfolding number_in
number_other most text other = rw other refl

-- a number within the bound
pub number_ok : {E : Type 0} (most n : ℕ) (text : List ℕ) (r : Result ℕ E) → ParsesUnsigned 64 10 text r → all_ascii_digits text ≡ true → r ≡ Ok n → n ≤ most → number_in most text ≡ Some n
unfolding number_in
number_ok most n text r parses digits ok le =
    let read : OkIff r ((all_ascii_digits text ≡ true) × (0 < length text) × (digits_value 10 text < 2 ^ 64)) (digits_value 10 text) = parse_plain numerals 64 text r parses (no_plus text digits) in
    let parts = rw ok at read in
    let value : n ≡ digits_value 10 text = parts.1 in
    let within : leb (digits_value 10 text) most ≡ true = le-leb (digits_value 10 text) most (omega (arith, value)) in
    rw (digits, lt-ltb 0 (length text) parts.0.1, within) (ap Some (sym value))

-- a number above it
pub number_large : {E : Type 0} (most n : ℕ) (text : List ℕ) (r : Result ℕ E) → ParsesUnsigned 64 10 text r → all_ascii_digits text ≡ true → r ≡ Ok n → most < n → number_in most text ≡ None
unfolding number_in
number_large most n text r parses digits ok lt =
    let read : OkIff r ((all_ascii_digits text ≡ true) × (0 < length text) × (digits_value 10 text < 2 ^ 64)) (digits_value 10 text) = parse_plain numerals 64 text r parses (no_plus text digits) in
    let parts = rw ok at read in
    let value : n ≡ digits_value 10 text = parts.1 in
    none_unless (all_ascii_digits text && (ltb 0 (length text) && leb (digits_value 10 text) most)) (digits_value 10 text)
    (λ yes.
    let inner = (and_parts (all_ascii_digits text) (ltb 0 (length text) && leb (digits_value 10 text) most) yes).1 in
    let le = leb-true (digits_value 10 text) most (and_parts (ltb 0 (length text)) (leb (digits_value 10 text) most) inner).1 in
    omega (arith, le, value))

-- no digits, or too many
pub number_none : {E : Type 0} (most : ℕ) (text : List ℕ) (r : Result ℕ E) (e : E) → ParsesUnsigned 64 10 text r → all_ascii_digits text ≡ true → r ≡ Err e → most < 2 ^ 64 → number_in most text ≡ None
unfolding number_in
number_none most text r e parses digits err lt =
    let read : OkIff r ((all_ascii_digits text ≡ true) × (0 < length text) × (digits_value 10 text < 2 ^ 64)) (digits_value 10 text) = parse_plain numerals 64 text r parses (no_plus text digits) in
    let not_read = rw err at read in
    none_unless (all_ascii_digits text && (ltb 0 (length text) && leb (digits_value 10 text) most)) (digits_value 10 text)
    (λ yes.
    let outer = and_parts (all_ascii_digits text) (ltb 0 (length text) && leb (digits_value 10 text) most) yes in
    let parts = and_parts (ltb 0 (length text)) (leb (digits_value 10 text) most) outer.1 in
    let le = leb-true (digits_value 10 text) most parts.1 in
    not_read (digits, ltb-true 0 (length text) parts.0, omega (arith, le)))
