-- What a path pattern is, and which paths it matches below two roots.
use Rattle.std.specs.Prelude.{◌≡◌, ℕ, Bool, not, ◌&&◌, ◌||◌, List, [], ◌∷◌, Option, None, Some, length, codes, position, if◌then◌else◌, ◌==◌, nat_le, true, false}
use Rattle.std.specs.List.{filter, list_any, slice_split}
use Rattle.std.specs.Option.{option_map, option_or, unwrap_or}
use Rattle.std.specs.Str.{bytes_eq}
use Rattle.rc_tree.specs.Name.{folded}
use Rattle.rc_wild.specs.declared.fault.PatternErr.{PatternErr}
use Rattle.rc_wild.specs.declared.fault.PatternErr.TheVariants.{BadChar, NoSeparator}
use Rattle.rc_wild.specs.Pattern.{matches_name, MatchesName}

-- the characters from 32 on but " < > |
abbrev pub is_path_char : ℕ → Bool
is_path_char c = nat_le 32 c && not (list_any (λ bad. c == bad) (codes "\"<>|"))

-- `\`, or `/`, which is read as `\`
abbrev pub is_separator : ℕ → Bool
is_separator c = c == 92 || c == 47

-- what keeps a text from being a path pattern: nothing for one
unfoldable pub path_pattern_fault : List ℕ → Option PatternErr
path_pattern_fault text =
    option_or (option_map (λ place. BadChar place) (position (λ c. not (is_path_char c)) text))
    (if list_any is_separator text then None else Some NoSeparator)

-- a part that counts: neither empty nor `.`
abbrev pub is_part : List ℕ → Bool
is_part part = not (length part == 0) && not (bytes_eq part (codes "."))

-- the parts of a root's or a value's text between its separators
abbrev pub parts_of : List ℕ → List (List ℕ)
parts_of text = filter is_part (slice_split is_separator text)

-- the parts behind a root's, where the first ones equal the root's by folding
abbrev pub behind_root : List (List ℕ) → List (List ℕ) → Option (List (List ℕ))
behind_root [] parts = Some parts
behind_root (root ∷ roots) [] = None
behind_root (root ∷ roots) (part ∷ parts) =
    if bytes_eq (folded root) (folded part) then behind_root roots parts else None

-- a value's parts behind those of the source root, or else of the target root, or else all of them
abbrev pub asked_parts : List ℕ → List ℕ → List ℕ → List (List ℕ)
asked_parts source target value =
    let parts = parts_of value in
    unwrap_or (option_or (behind_root (parts_of source) parts) (behind_root (parts_of target) parts)) parts

-- a part matches a name; one that holds `:` matches none
abbrev pub matches_part : List ℕ → List ℕ → Bool
matches_part part name = not (list_any (λ c. c == 58) part) && matches_name part name

-- as many names as parts, each matched by its part
abbrev pub matches_parts : List (List ℕ) → List (List ℕ) → Bool
matches_parts [] [] = true
matches_parts [] (name ∷ names) = false
matches_parts (part ∷ parts) [] = false
matches_parts (part ∷ parts) (name ∷ names) = matches_part part name && matches_parts parts names

-- the same, case by case
pub data MatchesParts : List (List ℕ) → List (List ℕ) → Type 0 where
  all_matched : MatchesParts [] []
  one_matched : {part name : List ℕ} {parts names : List (List ℕ)} → list_any (λ c. c == 58) part ≡ false → MatchesName part name → MatchesParts parts names → MatchesParts (part ∷ parts) (name ∷ names)

-- a path pattern matches a path below a source and a target root
unfoldable pub matches_path : List ℕ → List ℕ → List ℕ → List (List ℕ) → Bool
matches_path source target value path = matches_parts (asked_parts source target value) path

unfoldable pub MatchesPath : List ℕ → List ℕ → List ℕ → List (List ℕ) → Type 0
MatchesPath source target value path = MatchesParts (asked_parts source target value) path
