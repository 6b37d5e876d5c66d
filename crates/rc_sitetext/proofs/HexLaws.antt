-- Lower-case hexadecimal: what decodes is the spelling of its bytes.
use Rattle.std.proofs.Common.{◌≡◌, ℕ, suc, ◌+◌, ◌*◌, ◌/◌, ◌%◌, ◌<◌, Bool, true, false, not, ◌&&◌, ◌||◌, cond, ltb, leb, List, [], ◌∷◌, get_or, Option, Some, None, Result, Ok, Err, refl, sym, ap, ◌∙◌, arith}
use Rattle.std.specs.List.{list_any, AllByRecursion}
use Rattle.std.specs.Result.{result_ok}
use Rattle.std.proofs.lemmas.Bool.{and_parts, or_parts, or_from, not-true, leb-true, ltb-true}
use Rattle.std.proofs.lemmas.List.Sums.{AllPass-from_list_all}
use Rattle.hex.specs.Hex.{◌>>=◌, IsBytes, lower_digits, encode_with, encode_lower, hex_digit_value, digit_or_error, value_at, pair_value, decode_pairs, decode_of}
use Rattle.hex.specs.declared.error.FromHexError.{FromHexError}
use Rattle.hex.proofs.HexLemmas.{IsDigits-lower_digits, decode_of-ok, decode_of-even, decode_of-encode_lower}
use Rattle.rc_sitetext.specs.Reading.{bytes_at, is_upper}
use Rattle.rc_sitetext.proofs.Printable.{IsPrintable}

abbrev known : {A : Type 0} → A → Result A FromHexError
known x = Ok x

ok_is : {A : Type 0} (x y : A) → known x ≡ known y → x ≡ y
ok_is x y e = cc

bind_ok : {A B : Type 0} (r : Result A FromHexError) (f : A → Result B FromHexError) (y : B) → (r >>= f) ≡ Ok y → (x : A) × (r ≡ Ok x) × (f x ≡ Ok y)
bind_ok (Ok x) f y h = (x, refl, h)
bind_ok (Err e) f y h = absurd cc

digit_read : (c i : ℕ) (o : Option ℕ) (v : ℕ) → digit_or_error c i o ≡ Ok v → o ≡ Some v
digit_read c i (Some w) v h = ap Some (ok_is w v h)
digit_read c i None v h = absurd cc

-- the digit of a value, but for upper case
low_digit : (c v : ℕ) → hex_digit_value c ≡ Some v → is_upper c ≡ false → (v < 16) × (c ≡ cond (ltb v 10) (48 + v) (87 + v))
low_digit c v h low = (grind arith, grind arith)

-- a digit of the table is below 128, not below 48 and no upper case letter
abbrev is_low : ℕ → Bool
is_low c = leb 48 c && (ltb c 128 && not (is_upper c))

table_low : (d : ℕ) → d < 16 → is_low (get_or lower_digits d 0) ≡ true
table_low d lt = AllPass-from_list_all is_low lower_digits refl d 0 lt

table_digit : (c v : ℕ) → hex_digit_value c ≡ Some v → is_upper c ≡ false → (v < 16) × (get_or lower_digits v 0 ≡ c)
table_digit c v h low =
    let mine = low_digit c v h low in
    let t = and_parts (leb 48 (get_or lower_digits v 0)) (ltb (get_or lower_digits v 0) 128 && not (is_upper (get_or lower_digits v 0))) (table_low v mine.0) in
    let upper = not-true (is_upper (get_or lower_digits v 0)) (and_parts (ltb (get_or lower_digits v 0) 128) (not (is_upper (get_or lower_digits v 0))) t.1).1 in
    let theirs = low_digit (get_or lower_digits v 0) v (IsDigits-lower_digits v mine.0) upper in
    (mine.0, theirs.1 ∙ sym mine.1)

pairs_spell : (i : ℕ) (s bytes : List ℕ) → decode_pairs i s ≡ Ok bytes → list_any is_upper s ≡ false → s ≡ encode_with lower_digits bytes
unfolding decode_pairs encode_with
pairs_spell i [] bytes h low = let e : [] ≡ bytes = ok_is [] bytes h in rw (← e) refl
pairs_spell i (a ∷ []) bytes h low = absurd cc
pairs_spell i (a ∷ b ∷ rest) bytes h low =
    let p0 = bind_ok (pair_value a b i) (λ byte. decode_pairs (i + 2) rest >>= λ bytes. Ok (byte ∷ bytes)) bytes h in
    let p1 = bind_ok (value_at a i) (λ h. value_at b (i + 1) >>= λ l. Ok (h * 16 + l)) p0.0 p0.1 in
    let p2 = bind_ok (value_at b (i + 1)) (λ l. Ok (p1.0 * 16 + l)) p0.0 p1.2 in
    let p3 = bind_ok (decode_pairs (i + 2) rest) (λ bytes. Ok (p0.0 ∷ bytes)) bytes p0.2 in
    let la = or_parts (is_upper a) (is_upper b || list_any is_upper rest) low in
    let lb = or_parts (is_upper b) (list_any is_upper rest) la.1 in
    let da = table_digit a p1.0 (digit_read a i (hex_digit_value a) p1.0 p1.1) la.0 in
    let db = table_digit b p2.0 (digit_read b (i + 1) (hex_digit_value b) p2.0 p2.1) lb.0 in
    let ih = pairs_spell (i + 2) rest p3.0 p3.1 lb.1 in
    let byte : p1.0 * 16 + p2.0 ≡ p0.0 = ok_is (p1.0 * 16 + p2.0) p0.0 p2.2 in
    let high : p0.0 / 16 ≡ p1.0 = omega (arith, byte, db.0) in
    let less : p0.0 % 16 ≡ p2.0 = omega (arith, byte, db.0) in
    let e : p0.0 ∷ p3.0 ≡ bytes = ok_is (p0.0 ∷ p3.0) bytes p3.2 in
    let fst : get_or lower_digits (p0.0 / 16) 0 ≡ a = ap (λ (n : ℕ). get_or lower_digits n 0) high ∙ da.1 in
    let snd : get_or lower_digits (p0.0 % 16) 0 ≡ b = ap (λ (n : ℕ). get_or lower_digits n 0) less ∙ db.1 in
    let made : a ∷ b ∷ rest ≡ encode_with lower_digits (p0.0 ∷ p3.0) = rw (fst, snd, ← ih) refl in
    made ∙ ap (encode_with lower_digits) e

result_is : (r : Result (List ℕ) FromHexError) (bytes : List ℕ) → result_ok r ≡ Some bytes → r ≡ Ok bytes
result_is (Ok x) bytes e = cc
result_is (Err d) bytes e = absurd cc

unless : {A : Type 0} (b : Bool) (o : Option A) (y : A) → cond b None o ≡ Some y → (b ≡ false) × (o ≡ Some y)
unless true o y e = absurd cc
unless false o y e = (refl, e)

-- bytes that were read are spelled so
pub bytes_take : (text bytes : List ℕ) → bytes_at text ≡ Some bytes → (text ≡ encode_lower bytes) × IsBytes bytes
unfolding bytes_at
bytes_take text bytes e =
    let a = unless (list_any is_upper text) (result_ok (decode_of text)) bytes e in
    let ok = result_is (decode_of text) bytes a.1 in
    let facts = decode_of-ok text bytes ok in
    (pairs_spell 0 text bytes (sym (decode_of-even text facts.0) ∙ ok) a.0, facts.3)

encode_low : (bytes : List ℕ) → IsBytes bytes → AllByRecursion (λ c. is_low c ≡ true) (encode_with lower_digits bytes)
unfolding encode_with
encode_low [] h = tt
encode_low (b ∷ bytes) h =
    let fits : b < 256 = h 0 in
    (table_low (b / 16) (omega arith), (table_low (b % 16) (omega arith), encode_low bytes (λ i. h (suc i))))

no_upper : (text : List ℕ) → AllByRecursion (λ c. is_low c ≡ true) text → list_any is_upper text ≡ false
no_upper [] h = refl
no_upper (c ∷ text) h =
    let t = and_parts (leb 48 c) (ltb c 128 && not (is_upper c)) h.0 in
    or_from (is_upper c) (list_any is_upper text) (not-true (is_upper c) (and_parts (ltb c 128) (not (is_upper c)) t.1).1) (no_upper text h.1)

printable : (text : List ℕ) → AllByRecursion (λ c. is_low c ≡ true) text → IsPrintable 48 text
printable [] h = tt
printable (c ∷ text) h =
    let t = and_parts (leb 48 c) (ltb c 128 && not (is_upper c)) h.0 in
    ((leb-true 48 c t.0, ltb-true c 128 (and_parts (ltb c 128) (not (is_upper c)) t.1).0), printable text h.1)

pub IsPrintable-hex : (bytes : List ℕ) → IsBytes bytes → IsPrintable 48 (encode_lower bytes)
IsPrintable-hex bytes h = printable (encode_lower bytes) (encode_low bytes h)

-- the spelling of bytes is read again
pub bytes_again : (bytes : List ℕ) → IsBytes bytes → bytes_at (encode_lower bytes) ≡ Some bytes
unfolding bytes_at
bytes_again bytes h = rw (no_upper (encode_lower bytes) (encode_low bytes h), decode_of-encode_lower bytes h) refl
