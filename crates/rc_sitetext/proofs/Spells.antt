-- What a value is read from is its spelling, and its spelling is read again.
use Rattle.std.proofs.Common.{◌≡◌, ◌≢◌, ℕ, ◌^◌, ◌<◌, ◌≤◌, Bool, true, false, not, ◌&&◌, cond, eqb, ltb, leb, List, [], ◌∷◌, ◌++◌, length, get_or, Option, Some, None, refl, sym, ap, ◌∙◌, arith, inl, inr}
use Rattle.std.specs.Prelude.{option_map}
use Rattle.std.specs.Fmt.{decimal}
use Rattle.std.specs.Str.{IsUtf8, all_ascii_digits}
use Rattle.std.specs.Str.Parse.{digits_value}
use Rattle.std.proofs.lemmas.Bool.{cases_lt, ne_eqb, eqb-false, eqb-true, ltb-true, ltb-false, leb-true, le-leb, lt-ltb, and_parts, and_cases, or_parts, not-true}
use Rattle.std.proofs.lemmas.Str.{IsUtf8-from_ascii}
use Rattle.std.proofs.lemmas.Fmt.{digits_decimal, digits_value-decimal, decimal-digits_value, decimal_nonempty, first_decimal, decimal_digit, IsAscii-decimal}
use Rattle.rc_sitetext.specs.Reading.{◌>>=◌, number_at, is_numeral, is_padded, cut}
use Rattle.rc_sitetext.proofs.FieldValues.{numerals}
use Rattle.rc_sitetext.proofs.Plain.{IsPlain, IsPlain-digits}

-- a reader that takes just the spellings of the values that fit
pub record IsField {X : Type 0} (read : List ℕ → Option X) (spell : X → List ℕ) (Fits : X → Type 0) : Type 0 where
  pub takes : (text : List ℕ) (x : X) → read text ≡ Some x → (text ≡ spell x) × Fits x
  pub again : (x : X) → Fits x → read (spell x) ≡ Some x
  pub plain : (x : X) → Fits x → IsPlain (spell x)
  pub utf8 : (x : X) → Fits x → IsUtf8 (spell x)

pub some_is : {A : Type 0} (x y : A) → Some x ≡ Some y → x ≡ y
some_is x y e = cc

pub bind_some : {A B : Type 0} (o : Option A) (f : A → Option B) (y : B) → (o >>= f) ≡ Some y → (x : A) × (o ≡ Some x) × (f x ≡ Some y)
bind_some (Some x) f y e = (x, refl, e)
bind_some None f y e = absurd cc

-- a test that had to hold, or not to hold
pub if_some : {A : Type 0} (b : Bool) (o : Option A) (y : A) → cond b o None ≡ Some y → (b ≡ true) × (o ≡ Some y)
if_some true o y e = (refl, e)
if_some false o y e = absurd cc

pub unless_some : {A : Type 0} (b : Bool) (o : Option A) (y : A) → cond b None o ≡ Some y → (b ≡ false) × (o ≡ Some y)
unless_some true o y e = absurd cc
unless_some false o y e = (refl, e)

-- Fields in a line

cut_here : (b c : ℕ) (here : Bool) (text front rest : List ℕ) (later : Option (List ℕ × List ℕ)) → eqb b c ≡ here
    → ((more : List ℕ) → later ≡ Some (more, rest) → text ≡ more ++ c ∷ rest)
    → cond {A = Option (List ℕ × List ℕ)} here (Some ([], text)) (option_map (λ p. (b ∷ p.0, p.1)) later) ≡ Some (front, rest) → b ∷ text ≡ front ++ c ∷ rest
cut_here b c true text front rest later is more e =
    let pair : ◌≡◌ {A = List ℕ × List ℕ} ([], text) (front, rest) = some_is ([], text) (front, rest) e in
    ap (λ (x : ℕ). x ∷ text) (eqb-true b c is) ∙ ap (λ (p : List ℕ × List ℕ). p.0 ++ c ∷ p.1) pair
cut_here b c false text front rest None is more e = absurd cc
cut_here b c false text front rest (Some p) is more e =
    let pair : ◌≡◌ {A = List ℕ × List ℕ} (b ∷ p.0, p.1) (front, rest) = some_is (b ∷ p.0, p.1) (front, rest) e in
    let left : p.1 ≡ rest = ap (λ (q : List ℕ × List ℕ). q.1) pair in
    ap (λ (t : List ℕ). b ∷ t) (more p.0 (ap (λ (r : List ℕ). Some (p.0, r)) left)) ∙ ap (λ (f : List ℕ). f ++ c ∷ rest) (ap (λ (q : List ℕ × List ℕ). q.0) pair)

-- what is cut, joined again
pub cut_takes : (c : ℕ) (text front rest : List ℕ) → cut c text ≡ Some (front, rest) → text ≡ front ++ c ∷ rest
unfolding cut
cut_takes c [] front rest e = absurd cc
cut_takes c (b ∷ text) front rest e = cut_here b c (eqb b c) text front rest (cut c text) refl (λ more h. cut_takes c text more rest h) e

-- Numbers

short_zero : (text : List ℕ) → 0 < length text → is_padded text ≡ false → get_or text 0 0 ≡ 48 → length text ≡ 1
short_zero text some plain is =
    let second = (or_parts (eqb (get_or text 0 0) 43) (eqb (get_or text 0 0) 48 && ltb 1 (length text)) plain).1 in
    elim (and_cases (eqb (get_or text 0 0) 48) (ltb 1 (length text)) second) [
      | inl other ↦ absurd (eqb-false (get_or text 0 0) 48 other is)
      | inr short ↦ omega (arith, ltb-false 1 (length text) short)
    ]

is_padded-decimal : (n : ℕ) → n < 2 ^ 64 → is_padded (decimal n) ≡ false
is_padded-decimal n low =
    elim (cases_lt 0 n) [
      | inl some ↦
          let first = first_decimal n some low in
          let a : get_or (decimal n) 0 0 ≢ 43 = λ e. omega (arith, first, e) in
          let b : get_or (decimal n) 0 0 ≢ 48 = λ e. omega (arith, first, e) in
          rw (ne_eqb (get_or (decimal n) 0 0) 43 a, ne_eqb (get_or (decimal n) 0 0) 48 b) refl
      | inr none ↦
          let is : n ≡ 0 = omega arith in
          rw is (rw (decimal_digit 0 (omega arith)) refl)
    ]

abbrev pub UpTo : ℕ → ℕ → Type 0
UpTo greatest n = n ≤ greatest

pub number_field : (greatest : ℕ) → greatest < 2 ^ 64 → IsField (number_at greatest) decimal (UpTo greatest)
unfolding number_at
number_field greatest low =
    record {
      takes = λ text n e.
          let a = if_some (is_numeral text && leb (digits_value 10 text) greatest) (Some (digits_value 10 text)) n e in
          let both = and_parts (is_numeral text) (leb (digits_value 10 text) greatest) a.0 in
          let numeral = and_parts (not (is_padded text)) (all_ascii_digits text && ltb 0 (length text)) both.0 in
          let digits = and_parts (all_ascii_digits text) (ltb 0 (length text)) numeral.1 in
          let le = leb-true (digits_value 10 text) greatest both.1 in
          let some = ltb-true 0 (length text) digits.1 in
          let is : digits_value 10 text ≡ n = some_is (digits_value 10 text) n a.1 in
          let spelled : decimal (digits_value 10 text) ≡ text = decimal-digits_value numerals text digits.0 some (short_zero text some (not-true (is_padded text) numeral.0)) (omega (arith, le)) in
          (sym spelled ∙ ap decimal is, omega (arith, le, is));
      again = λ n fits.
          let small : n < 2 ^ 64 = omega (arith, fits) in
          let value : digits_value 10 (decimal n) ≡ n = digits_value-decimal numerals n small in
          rw (is_padded-decimal n small, digits_decimal numerals n small, lt-ltb 0 (length (decimal n)) (decimal_nonempty n small), value, le-leb n greatest fits) refl;
      plain = λ n fits. IsPlain-digits (decimal n) (numerals.to (decimal n) (digits_decimal numerals n (omega (arith, fits))));
      utf8 = λ n fits. IsUtf8-from_ascii (decimal n) (IsAscii-decimal n (omega (arith, fits)));
    }
