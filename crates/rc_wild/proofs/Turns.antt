-- What a walk over a pattern and a text keeps from turn to turn.
use Rattle.std.proofs.Common.{◌≡◌, ℕ, zero, suc, inl, inr, ◌+◌, ◌*◌, ◌<◌, ◌≤◌, Bool, true, false, ◌||◌, ◌&&◌, List, [], ◌∷◌, Option, None, Some, length, drop, chars, refl, sym, ap, ◌∙◌, arith, ◌==◌, drop-drop}
use Rattle.std.proofs.lemmas.Bool.{true≢false, or_cases, or_left, or_right, or_from, cond-false, false_from_ne_true, and_parts, both_ways}
use Rattle.rc_wild.specs.declared.walk.Back.{Back}
use Rattle.rc_wild.specs.Pattern.{stands_for, some_end, first_and_rest, matches_text}

-- Bool

or_same : (b : Bool) → (b || b) ≡ b
or_same true = refl
or_same false = refl

-- what implies the first adds nothing to it
or_within : (a b : Bool) → (b ≡ true → a ≡ true) → (a || b) ≡ a
or_within true b h = refl
or_within false true h = sym (h refl)
or_within false false h = refl

-- Ends of a text

drop-empty : (j : ℕ) → drop j (let none : List ℕ = [] in none) ≡ []
drop-empty zero = refl
drop-empty (suc j) = refl

-- the whole text, or an end of what follows its first character
some_end-next : (test : List ℕ → Bool) (text : List ℕ) → some_end test text ≡ (test text || some_end test (drop 1 text))
some_end-next test [] = sym (or_same (test []))
some_end-next test (x ∷ xs) = refl

-- an end that passes stands behind some number of characters
place_of_end : (test : List ℕ → Bool) (text : List ℕ) → some_end test text ≡ true → (j : ℕ) × (test (drop j text) ≡ true)
place_of_end test [] h = (0, h)
place_of_end test (x ∷ xs) h =
    elim (or_cases (test (x ∷ xs)) (some_end test xs) h) [
      | inl e ↦ (0, e)
      | inr e ↦ let later = place_of_end test xs e in (suc later.0, later.1)
    ]

-- an end that passes behind some number of characters
end_at_place : (test : List ℕ → Bool) (text : List ℕ) (j : ℕ) → test (drop j text) ≡ true → some_end test text ≡ true
end_at_place test [] j h = ap test (sym (drop-empty j)) ∙ h
end_at_place test (x ∷ xs) zero h = or_left (test (x ∷ xs)) (some_end test xs) h
end_at_place test (x ∷ xs) (suc j) h = or_right (test (x ∷ xs)) (some_end test xs) (end_at_place test xs j h)

-- an end of an end is one
end_from_end : (test : List ℕ → Bool) (text : List ℕ) (j : ℕ) → some_end test (drop j text) ≡ true → some_end test text ≡ true
end_from_end test text j h =
    let place = place_of_end test (drop j text) h in
    end_at_place test text (j + place.0) (ap test (sym (drop-drop place.0 j text)) ∙ place.1)

-- one more character than j others
drop-past : (j x : ℕ) (rest : List ℕ) → drop 1 (drop j (x ∷ rest)) ≡ drop j rest
drop-past j x rest =
    let turned : j + 1 ≡ 1 + j = omega arith in
    drop-drop 1 j (x ∷ rest) ∙ ap (λ n. drop n (x ∷ rest)) turned ∙ sym (drop-drop j 1 (x ∷ rest))

-- what follows a first character that passes
rest_passes : (first : ℕ → Bool) (rest : List ℕ → Bool) (text : List ℕ) → first_and_rest first rest text ≡ true → rest (drop 1 text) ≡ true
rest_passes first rest [] h = absurd (true≢false (sym h))
rest_passes first rest (x ∷ xs) h = (and_parts (first x) (rest xs) h).1

-- Where a walk stands

-- before the first star
pub record IsFirst (pattern text ahead left : List ℕ) : Type 0 where
  pub value : matches_text pattern text ≡ matches_text ahead left
  pub front : length ahead ≤ length pattern
  pub within : length left ≤ length text

-- behind a star, with what follows it and the text that it has not eaten
pub record IsLater (pattern text ahead left after from : List ℕ) : Type 0 where
  pub value : matches_text pattern text ≡ (matches_text ahead left || matches_text (42 ∷ after) (drop 1 from))
  pub reach : (j : ℕ) → matches_text after (drop j from) ≡ true → matches_text ahead (drop j left) ≡ true
  pub front : length ahead ≤ length pattern
  pub fits : length after ≤ length pattern
  pub within : length left ≤ length from

abbrev pub IsWalk : List ℕ → List ℕ → List ℕ → List ℕ → Option Back → Type 0
IsWalk pattern text ahead left None = IsFirst pattern text ahead left
IsWalk pattern text ahead left (Some back) = IsLater pattern text ahead left (chars back.after.now) (chars back.from.now)

-- what a star can still eat, and what is ahead
abbrev pub turns_left : List ℕ → List ℕ → List ℕ → Option Back → ℕ
turns_left pattern text ahead None = (length text + 1) * (length pattern + 1) + length ahead
turns_left pattern text ahead (Some back) = length (chars back.from.now) * (length pattern + 1) + length ahead

-- the later tries of a star match only where what is ahead does, from some place on
later_reaches : (ahead left after from : List ℕ) → ((j : ℕ) → matches_text after (drop j from) ≡ true → matches_text ahead (drop j left) ≡ true) → matches_text (42 ∷ after) (drop 1 from) ≡ true → (j : ℕ) × (matches_text ahead (drop j left) ≡ true)
later_reaches ahead left after from reach h =
    let place = place_of_end (matches_text after) (drop 1 from) h in
    (1 + place.0, reach (1 + place.0) (ap (matches_text after) (sym (drop-drop place.0 1 from)) ∙ place.1))

-- A star

star_value : (after left : List ℕ) → matches_text (42 ∷ after) left ≡ (matches_text after left || matches_text (42 ∷ after) (drop 1 left))
star_value after left = some_end-next (matches_text after) left

pub at_star : (pattern text ahead left after : List ℕ) (back : Option Back) → ahead ≡ 42 ∷ after → IsWalk pattern text ahead left back → IsLater pattern text after left after left
at_star pattern text ahead left after None e h = record {
  value = h.value ∙ ap (λ p. matches_text p left) e ∙ star_value after left;
  reach = λ j m. m;
  front = omega (arith, h.front, ap length e);
  fits = omega (arith, h.front, ap length e);
  within = omega arith;
}
at_star pattern text ahead left after (Some back) e h =
    let star : matches_text ahead left ≡ some_end (matches_text after) left = ap (λ p. matches_text p left) e in
    let within : matches_text (42 ∷ chars back.after.now) (drop 1 (chars back.from.now)) ≡ true → matches_text ahead left ≡ true =
    λ m. let place = later_reaches ahead left (chars back.after.now) (chars back.from.now) h.reach m in
    star ∙ end_from_end (matches_text after) left place.0 (sym (ap (λ p. matches_text p (drop place.0 left)) e) ∙ place.1) in
    record {
      value = h.value ∙ or_within (matches_text ahead left) (matches_text (42 ∷ chars back.after.now) (drop 1 (chars back.from.now))) within ∙ star ∙ star_value after left;
      reach = λ j m. m;
      front = omega (arith, h.front, ap length e);
      fits = omega (arith, h.front, ap length e);
      within = omega arith;
    }

-- A character that stands for the next one

first_value : (after rest : List ℕ) (c x : ℕ) → (c == 42) ≡ false → stands_for c x ≡ true → matches_text (c ∷ after) (x ∷ rest) ≡ matches_text after rest
first_value after rest c x apart stands =
    cond-false (c == 42) (some_end (matches_text after) (x ∷ rest)) (stands_for c x && matches_text after rest) apart
    ∙ ap (λ b. b && matches_text after rest) stands

same_value : (ahead left after rest : List ℕ) (c x : ℕ) → ahead ≡ c ∷ after → left ≡ x ∷ rest → (c == 42) ≡ false → stands_for c x ≡ true → matches_text ahead left ≡ matches_text after rest
same_value ahead left after rest c x e f apart stands =
    ap (λ p. matches_text p left) e ∙ ap (matches_text (c ∷ after)) f ∙ first_value after rest c x apart stands

same_reach : (ahead left after rest : List ℕ) (c x : ℕ) (j : ℕ) → ahead ≡ c ∷ after → left ≡ x ∷ rest → (c == 42) ≡ false → matches_text ahead (drop j left) ≡ true → matches_text after (drop j rest) ≡ true
same_reach ahead left after rest c x j e f apart m =
    let first : first_and_rest (stands_for c) (matches_text after) (drop j left) ≡ true =
    sym (cond-false (c == 42) (some_end (matches_text after) (drop j left)) (first_and_rest (stands_for c) (matches_text after) (drop j left)) apart)
    ∙ sym (ap (λ p. matches_text p (drop j left)) e) ∙ m in
    ap (matches_text after) (sym (drop-past j x rest) ∙ ap (λ l. drop 1 (drop j l)) (sym f))
    ∙ rest_passes (stands_for c) (matches_text after) (drop j left) first

pub at_same : (pattern text ahead left after rest : List ℕ) (back : Option Back) (c x : ℕ) → ahead ≡ c ∷ after → left ≡ x ∷ rest → (c == 42) ≡ false → stands_for c x ≡ true → IsWalk pattern text ahead left back → IsWalk pattern text after rest back
at_same pattern text ahead left after rest None c x e f apart stands h = record {
  value = h.value ∙ same_value ahead left after rest c x e f apart stands;
  front = omega (arith, h.front, ap length e);
  within = omega (arith, h.within, ap length f);
}
at_same pattern text ahead left after rest (Some back) c x e f apart stands h = record {
  value = h.value ∙ ap (λ b. b || matches_text (42 ∷ chars back.after.now) (drop 1 (chars back.from.now))) (same_value ahead left after rest c x e f apart stands);
  reach = λ j m. same_reach ahead left after rest c x j e f apart (h.reach j m);
  front = omega (arith, h.front, ap length e);
  fits = h.fits;
  within = omega (arith, h.within, ap length f);
}

-- A character that is in the way

pub at_apart : (pattern text ahead left after from rest : List ℕ) (x : ℕ) → matches_text ahead left ≡ false → from ≡ x ∷ rest → IsLater pattern text ahead left after from → IsLater pattern text after rest after rest
at_apart pattern text ahead left after from rest x m e h = record {
  value = h.value ∙ ap (λ b. b || matches_text (42 ∷ after) (drop 1 from)) m ∙ ap (λ s. matches_text (42 ∷ after) (drop 1 s)) e ∙ star_value after rest;
  reach = λ j n. n;
  front = h.fits;
  fits = h.fits;
  within = omega arith;
}

-- Ends of the walk

pub at_match : (pattern text ahead left : List ℕ) (back : Option Back) → ahead ≡ [] → left ≡ [] → IsWalk pattern text ahead left back → matches_text pattern text ≡ true
at_match pattern text ahead left None e f h = h.value ∙ ap (λ p. matches_text p left) e ∙ ap (matches_text []) f
at_match pattern text ahead left (Some back) e f h = h.value ∙ or_left (matches_text ahead left) (matches_text (42 ∷ chars back.after.now) (drop 1 (chars back.from.now))) (ap (λ p. matches_text p left) e ∙ ap (matches_text []) f)

pub too_short : (pattern text ahead left : List ℕ) (back : Option Back) → left ≡ [] → matches_text ahead [] ≡ false → IsWalk pattern text ahead left back → matches_text pattern text ≡ false
too_short pattern text ahead left None e m h = h.value ∙ ap (matches_text ahead) e ∙ m
too_short pattern text ahead left (Some back) e m h =
    let tries : matches_text (42 ∷ chars back.after.now) (drop 1 (chars back.from.now)) ≡ true → ⊥ =
    λ t. let place = later_reaches ahead left (chars back.after.now) (chars back.from.now) h.reach t in
    both_ways (matches_text ahead []) m (ap (matches_text ahead) (sym (ap (drop place.0) e ∙ drop-empty place.0)) ∙ place.1) in
    h.value
    ∙ or_from (matches_text ahead left) (matches_text (42 ∷ chars back.after.now) (drop 1 (chars back.from.now)))
    (ap (matches_text ahead) e ∙ m)
    (false_from_ne_true (matches_text (42 ∷ chars back.after.now) (drop 1 (chars back.from.now))) tries)

pub no_way_back : (pattern text ahead left : List ℕ) → matches_text ahead left ≡ false → IsFirst pattern text ahead left → matches_text pattern text ≡ false
no_way_back pattern text ahead left m h = h.value ∙ m

pub none_left : (pattern text ahead left after from : List ℕ) → 0 < length left → from ≡ [] → IsLater pattern text ahead left after from → ⊥
none_left pattern text ahead left after from some e h = omega (arith, h.within, ap length e, some)
