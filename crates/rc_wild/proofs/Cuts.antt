-- The parts of a text, taken off one by one.
use Rattle.std.proofs.Common.{◌≡◌, ℕ, ◌-◌, true, false, List, [], ◌∷◌, ◌++◌, length, chars, refl, sym, ap, ◌∙◌, subst, arith, append-nil, append_assoc, length-append}
use Rattle.std.specs.List.{All, filter}
use Rattle.std.specs.Prelude.{if◌then◌else◌, slice_range}
use Rattle.std.specs.Str.{IsUtf8}
use Rattle.std.proofs.Math.Utf8.{encode, scalar, scalars}
use Rattle.std.proofs.lemmas.Grind.{common_steps}
use Rattle.std.proofs.lemmas.Bool.{and_parts, and_from}
use Rattle.std.proofs.lemmas.List.Elements.{All-nil, All-push}
use Rattle.std.proofs.lemmas.List.Splits.{slice_split_none, slice_split_at}
use Rattle.std.proofs.lemmas.Str.{chars-nil, chars-encodes, chars-append, chars_past_char, scalars-chars, IsUtf8-nil, IsUtf8-append, IsUtf8-past_char}
use Rattle.rc_wild.proofs.Chars.{empty_list}
use Rattle.rc_wild.specs.PathPattern.{is_separator, is_part, parts_of}

-- what was passed of a text, in which no separator stands, and what is left
pub record IsCut (text left : List ℕ) : Type 0 where
  pub front : List ℕ
  pub whole : text ≡ front ++ left
  pub utf8 : IsUtf8 front
  pub plain : All (λ c. is_separator c ≡ false) (chars front)
  pub rest_utf8 : IsUtf8 left

abbrev IsPlain : ℕ → Type 0
IsPlain c = is_separator c ≡ false

pub cut_starts : (text left : List ℕ) → left ≡ text → IsUtf8 text → IsCut text left
cut_starts text left e utf8 = record {
  front = [];
  whole = sym e;
  utf8 = IsUtf8-nil;
  plain = subst (All IsPlain) (sym chars-nil) (All-nil IsPlain);
  rest_utf8 = subst IsUtf8 (sym e) utf8;
}

-- the first character of a text, alone
first_alone : (bs rest : List ℕ) (c : ℕ) → IsUtf8 bs → bs ≡ encode c ++ rest → IsUtf8 (encode c) × (chars (encode c) ≡ c ∷ [])
first_alone bs rest c utf8 e =
    let all : scalars (c ∷ chars rest) ≡ true = ap scalars (sym (chars_past_char bs rest c utf8 e)) ∙ scalars-chars bs utf8 in
    let one : scalars (c ∷ []) ≡ true = and_from _ _ (and_parts (scalar c) (scalars (chars rest)) all).0 refl in
    ((c ∷ [], (one, append-nil (encode c))), ap chars (sym (append-nil (encode c))) ∙ chars-encodes (c ∷ []) one)

pub cut_goes_on : (text left rest : List ℕ) (c : ℕ) → left ≡ encode c ++ rest → is_separator c ≡ false → IsCut text left → IsCut text rest
cut_goes_on text left rest c e h cut =
    let alone = first_alone left rest c cut.rest_utf8 e in
    record {
      front = cut.front ++ encode c;
      whole = cut.whole ∙ ap (λ l. cut.front ++ l) e ∙ sym (append_assoc cut.front (encode c) rest);
      utf8 = IsUtf8-append cut.front (encode c) cut.utf8 alone.0;
      plain = subst (All IsPlain) (sym (chars-append cut.front (encode c) cut.utf8 ∙ ap (λ l. chars cut.front ++ l) alone.1)) (All-push IsPlain (chars cut.front) c cut.plain h);
      rest_utf8 = IsUtf8-past_char left rest c cut.rest_utf8 e;
    }

-- one part alone
abbrev before : List ℕ → List (List ℕ) → List (List ℕ)
before part later = if is_part part then part ∷ later else later

no_parts : parts_of (chars []) ≡ []
no_parts = ap parts_of chars-nil

pub cut_at_end : (text left : List ℕ) → length left ≡ 0 → IsCut text left → parts_of (chars text) ≡ before (chars text) (parts_of (chars []))
cut_at_end text left e cut =
    let whole : text ≡ cut.front = cut.whole ∙ ap (λ l. cut.front ++ l) (empty_list left e) ∙ append-nil cut.front in
    ap (filter is_part) (slice_split_none is_separator (chars text) (subst (λ t. All IsPlain (chars t)) (sym whole) cut.plain))
    ∙ ap (before (chars text)) (sym no_parts)

front_of_whole : (front left : List ℕ) → slice_range (front ++ left) 0 (length front) ≡ front
front_of_whole front left = grind (arith, common_steps)

front_is : (text front left part : List ℕ) → text ≡ front ++ left → part ≡ slice_range text 0 (length text - length left) → part ≡ front
front_is text front left part whole e =
    let n : length text - length left ≡ length front = omega (arith, ap length whole, length-append front left) in
    e ∙ ap (λ k. slice_range text 0 k) n ∙ ap (λ t. slice_range t 0 (length front)) whole ∙ front_of_whole front left

pub cut_at_separator : (text left rest part : List ℕ) (c : ℕ) → left ≡ encode c ++ rest → is_separator c ≡ true → part ≡ slice_range text 0 (length text - length left) → IsCut text left → parts_of (chars text) ≡ before (chars part) (parts_of (chars rest))
cut_at_separator text left rest part c e h is cut =
    let split : chars text ≡ chars cut.front ++ c ∷ chars rest =
    ap chars cut.whole ∙ chars-append cut.front left cut.utf8 ∙ ap (λ l. chars cut.front ++ l) (chars_past_char left rest c cut.rest_utf8 e) in
    ap parts_of split
    ∙ ap (filter is_part) (slice_split_at is_separator (chars cut.front) c (chars rest) cut.plain h)
    ∙ ap (λ p. before (chars p) (parts_of (chars rest))) (sym (front_is text cut.front left part cut.whole is))
