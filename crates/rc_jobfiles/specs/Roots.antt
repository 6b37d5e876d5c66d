-- When two roots overlap.
use Rattle.std.specs.Prelude.{ℕ, Bool, true, false, not, ◌&&◌, ◌||◌, ◌==◌, List, [], ◌∷◌, ◌++◌, flat_map, length, if◌then◌else◌}
use Rattle.rc_tree.specs.Name.{folded}
use Rattle.rc_wild.specs.PathPattern.{is_separator, parts_of}

abbrev pub begins_apart : List ℕ → Bool
begins_apart [] = false
begins_apart (c ∷ cs) = is_separator c

-- each part behind a `\`
abbrev pub behind_each : List (List ℕ) → List ℕ
behind_each parts = flat_map (λ part. 92 ∷ part) parts

-- with `\` between two parts
abbrev pub joined : List (List ℕ) → List ℕ
joined [] = []
joined (part ∷ parts) = part ++ behind_each parts

-- a root without the parts that are empty or `.`, and with `\` for `/`, of which one at its front stays
abbrev pub normal_form : List ℕ → List ℕ
normal_form text = (if begins_apart text then 92 ∷ [] else []) ++ joined (parts_of text)

-- equal, or the first one followed by `\` and more
abbrev pub is_at_or_below : List ℕ → List ℕ → Bool
is_at_or_below [] [] = true
is_at_or_below [] (c ∷ cs) = c == 92 && not (length cs == 0)
is_at_or_below (r ∷ rs) [] = false
is_at_or_below (r ∷ rs) (c ∷ cs) = r == c && is_at_or_below rs cs

-- one is the other, or below it, by their folded normal forms
unfoldable pub overlap : List ℕ → List ℕ → Bool
overlap one two =
    let first = folded (normal_form one) in
    let second = folded (normal_form two) in
    is_at_or_below first second || is_at_or_below second first
