-- How a tree spells what stands in it.
use Rattle.std.specs.Prelude.{ℕ, List, [], ◌∷◌, ◌++◌, Option, Some, None}
use Rattle.std.specs.FinMap.{get}
use Rattle.rc_tree.specs.Tree.{Node, Tree}

-- how what stands there is spelled
abbrev pub spelling_of : Option Node → List ℕ
spelling_of None = []
spelling_of (Some node) = node.spelling

abbrev pub spelling_at : Tree → List (List ℕ) → List ℕ
spelling_at tree key = spelling_of (get tree key)

-- the path of a key as a tree spells it, behind the names of a directory
abbrev pub spelled_below : Tree → List (List ℕ) → List (List ℕ) → List (List ℕ)
spelled_below tree above [] = []
spelled_below tree above (name ∷ names) = spelling_at tree (above ++ name ∷ []) ∷ spelled_below tree (above ++ name ∷ []) names

abbrev pub spelled : Tree → List (List ℕ) → List (List ℕ)
spelled tree key = spelled_below tree [] key
