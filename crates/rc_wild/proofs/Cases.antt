-- The tests that decide a match and the relations that say it case by case are one.
use Rattle.std.proofs.Common.{◌≡◌, ◌↔◌, ℕ, Bool, true, false, ◌&&◌, not, List, [], ◌∷◌, length, ◌==◌, refl, sym, ◌∙◌, subst, inl, inr, arith, IsTrue}
use Rattle.std.specs.List.{list_any}
use Rattle.std.proofs.lemmas.Bool.{true≢false, and_parts, and_from, or_cases, or_left, or_right, cases_Bool, cond-true, cond-false, eqb-true, eq-eqb, not-true, not_from_false}
use Rattle.unicode.specs.CaseFolding.{simple_fold}
use Rattle.rc_wild.specs.Pattern.{stands_for, some_end, first_and_rest, matches_text, Matches, both_end, star_ends, star_eats, any_one, same_one, matches_name, MatchesName}
use Rattle.rc_wild.specs.PathPattern.{matches_part, matches_parts, MatchesParts, all_matched, one_matched}

-- From the test to the relation

ends_together : (text : List ℕ) → matches_text [] text ≡ true → Matches [] text
ends_together [] h = both_end
ends_together (x ∷ xs) h = absurd (omega (arith, eqb-true (length (x ∷ xs)) 0 h))

by_star : (cs text : List ℕ) → ((end : List ℕ) → matches_text cs end ≡ true → Matches cs end) → some_end (matches_text cs) text ≡ true → Matches (42 ∷ cs) text
by_star cs [] later h = star_ends (later [] h)
by_star cs (x ∷ xs) later h =
    elim (or_cases (matches_text cs (x ∷ xs)) (some_end (matches_text cs) xs) h) [
      | inl e ↦ star_ends (later (x ∷ xs) e)
      | inr e ↦ star_eats (by_star cs xs later e)
    ]

by_one : (c x : ℕ) (cs xs : List ℕ) → stands_for c x ≡ true → Matches cs xs → Matches (c ∷ cs) (x ∷ xs)
by_one c x cs xs h m =
    elim (or_cases (c == 63) (simple_fold c == simple_fold x) h) [
      | inl e ↦ subst (λ d. Matches (d ∷ cs) (x ∷ xs)) (sym (eqb-true c 63 e)) (any_one m)
      | inr e ↦ same_one (eqb-true (simple_fold c) (simple_fold x) e) m
    ]

by_first : (c : ℕ) (cs text : List ℕ) → ((end : List ℕ) → matches_text cs end ≡ true → Matches cs end) → first_and_rest (stands_for c) (matches_text cs) text ≡ true → Matches (c ∷ cs) text
by_first c cs [] later h = absurd (true≢false (sym h))
by_first c cs (x ∷ xs) later h =
    let both = and_parts (stands_for c x) (matches_text cs xs) h in
    by_one c x cs xs both.0 (later xs both.1)

pub cases_from_test : (cs text : List ℕ) → matches_text cs text ≡ true → Matches cs text
cases_from_test [] text h = ends_together text h
cases_from_test (c ∷ cs) text h =
    elim (cases_Bool (c == 42)) [
      | inl e ↦ subst (λ d. Matches (d ∷ cs) text) (sym (eqb-true c 42 e)) (by_star cs text (cases_from_test cs) (sym (cond-true (c == 42) (some_end (matches_text cs) text) (first_and_rest (stands_for c) (matches_text cs) text) e) ∙ h))
      | inr e ↦ by_first c cs text (cases_from_test cs) (sym (cond-false (c == 42) (some_end (matches_text cs) text) (first_and_rest (stands_for c) (matches_text cs) text) e) ∙ h)
    ]

-- From the relation to the test

end_itself : (test : List ℕ → Bool) (text : List ℕ) → test text ≡ true → some_end test text ≡ true
end_itself test [] h = h
end_itself test (x ∷ xs) h = or_left (test (x ∷ xs)) (some_end test xs) h

same_passes : (b : Bool) (c x : ℕ) (cs xs : List ℕ) → (c == 42) ≡ b → stands_for c x ≡ true → matches_text cs xs ≡ true → matches_text (c ∷ cs) (x ∷ xs) ≡ true
same_passes true c x cs xs e h m =
    cond-true (c == 42) (some_end (matches_text cs) (x ∷ xs)) (stands_for c x && matches_text cs xs) e
    ∙ or_right (matches_text cs (x ∷ xs)) (some_end (matches_text cs) xs) (end_itself (matches_text cs) xs m)
same_passes false c x cs xs e h m =
    cond-false (c == 42) (some_end (matches_text cs) (x ∷ xs)) (stands_for c x && matches_text cs xs) e
    ∙ and_from (stands_for c x) (matches_text cs xs) h m

pub test_from_cases : {cs text : List ℕ} → Matches cs text → matches_text cs text ≡ true
test_from_cases both_end = refl
test_from_cases (star_ends {cs} {text} m) = end_itself (matches_text cs) text (test_from_cases m)
test_from_cases (star_eats {x} {cs} {text} m) = or_right (matches_text cs (x ∷ text)) (some_end (matches_text cs) text) (test_from_cases m)
test_from_cases (any_one m) = test_from_cases m
test_from_cases (same_one {c} {x} {cs} {text} e m) =
    same_passes (c == 42) c x cs text refl (or_right (c == 63) (simple_fold c == simple_fold x) (eq-eqb (simple_fold c) (simple_fold x) e)) (test_from_cases m)

pub name_cases : (pattern name : List ℕ) → IsTrue (matches_name pattern name) ↔ MatchesName pattern name
unfolding matches_name MatchesName
name_cases pattern name = (cases_from_test _ name, test_from_cases)

-- Paths

pub parts_cases : (parts names : List (List ℕ)) → matches_parts parts names ≡ true → MatchesParts parts names
parts_cases [] [] h = all_matched
parts_cases [] (name ∷ names) h = absurd (true≢false (sym h))
parts_cases (part ∷ parts) [] h = absurd (true≢false (sym h))
parts_cases (part ∷ parts) (name ∷ names) h =
    let both = and_parts (matches_part part name) (matches_parts parts names) h in
    let own = and_parts (not (list_any (λ c. c == 58) part)) (matches_name part name) both.0 in
    one_matched (not-true (list_any (λ c. c == 58) part) own.0) ((name_cases part name).0 own.1) (parts_cases parts names both.1)

pub parts_test : {parts names : List (List ℕ)} → MatchesParts parts names → matches_parts parts names ≡ true
parts_test all_matched = refl
parts_test (one_matched {part} {name} {parts} {names} plain m more) =
    and_from (matches_part part name) (matches_parts parts names)
    (and_from (not (list_any (λ c. c == 58) part)) (matches_name part name) (not_from_false (list_any (λ c. c == 58) part) plain) ((name_cases part name).1 m))
    (parts_test more)
