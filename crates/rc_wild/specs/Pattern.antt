-- What a pattern is, and which texts it matches.
use Rattle.std.specs.Prelude.{◌≡◌, ℕ, Bool, not, ◌&&◌, ◌||◌, List, [], ◌∷◌, Option, Some, length, codes, position, if◌then◌else◌, ◌==◌, nat_le, false}
use Rattle.std.specs.List.{list_any}
use Rattle.std.specs.Option.{option_map}
use Rattle.std.specs.Str.{bytes_eq}
use Rattle.unicode.specs.CaseFolding.{simple_fold}
use Rattle.rc_wild.specs.declared.fault.PatternErr.{PatternErr}
use Rattle.rc_wild.specs.declared.fault.PatternErr.TheVariants.{Empty, BadChar}

-- the characters from 32 on but \ / : " < > |
abbrev pub is_pattern_char : ℕ → Bool
is_pattern_char c = nat_le 32 c && not (list_any (λ bad. c == bad) (codes "\\/:\"<>|"))

-- what keeps a text from being a pattern: nothing for a pattern
unfoldable pub pattern_fault : List ℕ → Option PatternErr
pattern_fault text =
    if length text == 0 then Some Empty
    else option_map (λ place. BadChar place) (position (λ c. not (is_pattern_char c)) text)

-- a character of a pattern, other than `*`, stands for one of a text: `?` for any, another for one of equal folding
abbrev pub stands_for : ℕ → ℕ → Bool
stands_for c x = c == 63 || simple_fold c == simple_fold x

-- an end of a text passes a test: the whole text, one of its shorter ends, or the empty one
abbrev pub some_end : (List ℕ → Bool) → List ℕ → Bool
some_end test [] = test []
some_end test (x ∷ xs) = test (x ∷ xs) || some_end test xs

-- the first character of a text passes one test, and what follows it another
abbrev pub first_and_rest : (ℕ → Bool) → (List ℕ → Bool) → List ℕ → Bool
first_and_rest first rest [] = false
first_and_rest first rest (x ∷ xs) = first x && rest xs

-- a pattern's characters match a text
abbrev pub matches_text : List ℕ → List ℕ → Bool
matches_text [] text = length text == 0
matches_text (c ∷ cs) text =
    if c == 42 then some_end (matches_text cs) text
    else first_and_rest (stands_for c) (matches_text cs) text

-- the same, case by case
pub data Matches : List ℕ → List ℕ → Type 0 where
  both_end : Matches [] []
  star_ends : {cs text : List ℕ} → Matches cs text → Matches (42 ∷ cs) text
  star_eats : {x : ℕ} {cs text : List ℕ} → Matches (42 ∷ cs) text → Matches (42 ∷ cs) (x ∷ text)
  any_one : {x : ℕ} {cs text : List ℕ} → Matches cs text → Matches (63 ∷ cs) (x ∷ text)
  same_one : {c x : ℕ} {cs text : List ℕ} → simple_fold c ≡ simple_fold x → Matches cs text → Matches (c ∷ cs) (x ∷ text)

-- `*.*` is read as `*`
abbrev pub read_as : List ℕ → List ℕ
read_as pattern = if bytes_eq pattern (codes "*.*") then codes "*" else pattern

-- a pattern matches a name
unfoldable pub matches_name : List ℕ → List ℕ → Bool
matches_name pattern name = matches_text (read_as pattern) name

unfoldable pub MatchesName : List ℕ → List ℕ → Type 0
MatchesName pattern name = Matches (read_as pattern) name
