-- Which switch a word spells.
use Rattle.std.specs.Prelude.{ℕ, ◌+◌, Bool, true, false, not, ◌&&◌, ◌==◌, List, [], ◌∷◌, Option, None, Some, if◌then◌else◌}
use Rattle.std.specs.Char.{to_ascii_uppercase}
use Rattle.rc_words.specs.declared.setting.Word.{Word}
use Rattle.rc_words.specs.declared.table.Value.{Value}
use Rattle.rc_words.specs.Table.{Named}

-- a switch by its name alone, by the name of one that needs a value, or with what stands behind the colon
pub data Reading : Type 0 where
  Plain : Reading
  Bare : Reading
  Behind : List ℕ → Reading

-- what stands in a text behind a name in capitals, which is read in either case
abbrev pub behind_name : List ℕ → List ℕ → Option (List ℕ)
behind_name [] cs = Some cs
behind_name (n ∷ ns) [] = None
behind_name (n ∷ ns) (c ∷ cs) = if to_ascii_uppercase c == n then behind_name ns cs else None

abbrev pub reading_by : Bool → Option (List ℕ) → Option Reading
reading_by colon None = None
reading_by false (Some []) = Some Plain
reading_by false (Some (c ∷ cs)) = None
reading_by true (Some []) = Some Bare
reading_by true (Some (c ∷ cs)) = if c == 58 then Some (Behind cs) else None

abbrev pub reading_of : Named → List ℕ → Option Reading
reading_of switch cs = reading_by switch.colon (behind_name switch.name cs)

pub record Spelled : Type 0 where
  pub number : ℕ
  pub value : Value
  pub reading : Reading

abbrev pub spelled_or : ℕ → Value → Option Reading → Option Spelled → Option Spelled
spelled_or n value (Some reading) later = Some (record { number = n; value = value; reading = reading })
spelled_or n value None later = later

-- the first of some switches, numbered from n on, that a text spells
abbrev pub spelled_among : ℕ → List Named → List ℕ → Option Spelled
spelled_among n [] cs = None
spelled_among n (switch ∷ switches) cs =
    spelled_or n switch.value (reading_of switch cs) (spelled_among (n + 1) switches cs)

abbrev pub begins_with : ℕ → List ℕ → Bool
begins_with c [] = false
begins_with c (d ∷ ds) = d == c

-- a word that begins with `/`, and not with a quote
abbrev pub is_switch : Word → Bool
is_switch word = not word.quoted && begins_with 47 word.text
