-- What a text has to be to name an entry, and what two names are compared by.
use Rattle.std.specs.Prelude.{ℕ, Bool, not, ◌&&◌, List, Option, None, Some, map, length, codes, position, if◌then◌else◌, ◌==◌, nat_lt, nat_le}
use Rattle.std.specs.List.{list_any, list_all}
use Rattle.unicode.specs.CaseFolding.{simple_fold}
use Rattle.rc_tree.specs.declared.name.NameErr.{NameErr}
use Rattle.rc_tree.specs.declared.name.NameErr.TheVariants.{Empty, TooLong, BadChar, Dots}

-- the characters from 32 on but \ / : * ? " < > |
abbrev pub is_name_char : ℕ → Bool
is_name_char c = nat_le 32 c && not (list_any (λ bad. c == bad) (codes "\\/:*?\"<>|"))

-- `.` and `..`
abbrev pub is_dots : List ℕ → Bool
is_dots cs = list_all (λ c. c == 46) cs && nat_le (length cs) 2

abbrev pub bad_place_or_dots : List ℕ → Option ℕ → Option NameErr
bad_place_or_dots cs (Some place) = Some (BadChar place)
bad_place_or_dots cs None = if is_dots cs then Some Dots else None

-- what keeps a text from being a name: nothing for a name
abbrev pub name_fault : List ℕ → Option NameErr
name_fault cs =
    if length cs == 0 then Some Empty
    else if nat_lt 255 (length cs) then Some TooLong
    else bad_place_or_dots cs (position (λ c. not (is_name_char c)) cs)

-- the folded form: each character in its simple case folding
abbrev pub folded : List ℕ → List ℕ
folded name = map simple_fold name
