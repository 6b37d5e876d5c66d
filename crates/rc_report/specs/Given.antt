-- The places of files that were given up.
use Rattle.std.specs.Prelude.{ℕ, ◌<◌, ◌==◌, Bool, List, length, get_or}
use Rattle.std.specs.List.{list_any}
use Rattle.rc_class.specs.declared.rules.GivenUp.{GivenUp}

-- whether a place is named
abbrev pub is_named : List GivenUp → ℕ → Bool
is_named failed place = list_any (λ (g : GivenUp). g.item == place) failed

abbrev pub none : GivenUp
none = record { item = 0; tries = 0 }

-- the places rise strictly
abbrev pub IsRising : List GivenUp → Type 0
IsRising failed =
    (k n : ℕ) → k < n → n < length failed
    → (get_or failed k none).item < (get_or failed n none).item
