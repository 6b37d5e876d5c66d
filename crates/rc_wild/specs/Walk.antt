-- What one turn of a walk over a pattern and a text finds, and where the walk goes back to.
use Rattle.std.specs.Prelude.{◌≡◌, ℕ, ◌<◌, true, false, List, [], ◌∷◌, Option, None, Some, length, ◌==◌, chars}
use Rattle.rc_wild.specs.declared.walk.Turn.{Turn}
use Rattle.rc_wild.specs.declared.walk.Turn.TheVariants.{Matched, TooShort, Star, Same, Apart}
use Rattle.rc_wild.specs.declared.walk.Back.{Back}
use Rattle.rc_wild.specs.Pattern.{stands_for, matches_text}

-- what stands first in the pattern and in the text
abbrev pub IsTurn : List ℕ → List ℕ → Turn → Type 0
IsTurn pattern text Matched = (pattern ≡ []) × (text ≡ [])
IsTurn pattern text TooShort = (text ≡ []) × (matches_text pattern [] ≡ false)
IsTurn pattern text (Star after) = pattern ≡ 42 ∷ chars after.now
IsTurn pattern text (Same after rest) =
    (c x : ℕ) × (pattern ≡ c ∷ chars after.now) × (text ≡ x ∷ chars rest.now) × ((c == 42) ≡ false) × (stands_for c x ≡ true)
IsTurn pattern text Apart = (0 < length text) × (matches_text pattern text ≡ false)

-- the same star, where it eats one character more; none, where nothing is left for it
abbrev pub IsNextTry : Option Back → Option Back → Type 0
IsNextTry None None = Unit {0}
IsNextTry None (Some later) = ⊥
IsNextTry (Some back) None = chars back.from.now ≡ []
IsNextTry (Some back) (Some later) = (later.after.now ≡ back.after.now) × ((x : ℕ) × (chars back.from.now ≡ x ∷ chars later.from.now))
