-- Paths as lists of spellings, keys as lists of folded names, and the order of keys.
use Rattle.std.specs.Prelude.{ℕ, ◌+◌, List, [], ◌∷◌, ◌++◌, Option, None, Some, map, length, take, if◌then◌else◌, ◌==◌, nat_lt}
use Rattle.std.specs.List.{slice_split}
use Rattle.std.specs.Ordering.{nat_cmp}
use Rattle.std.specs.Cmp.Lexicographic.{slice_cmp}
use Rattle.std.specs.declared.cmp.Ordering.{Ordering}
use Rattle.rc_tree.specs.declared.path.PathErr.{PathErr}
use Rattle.rc_tree.specs.declared.path.PathErr.TheVariants.{BadName, TooDeep}
use Rattle.rc_tree.specs.declared.name.NameErr.{NameErr}
use Rattle.rc_tree.specs.Name.{name_fault, folded}

-- the parts between the `\` of a text; the empty text has none
abbrev pub names_in : List ℕ → List (List ℕ)
names_in [] = []
names_in (c ∷ cs) = slice_split (λ x. x == 92) (c ∷ cs)

-- the answer at part n, where this is what keeps it from being a name and that is the answer for the parts after it
abbrev pub fault_at : ℕ → Option NameErr → Option PathErr → Option PathErr
fault_at n (Some err) later = Some (BadName n err)
fault_at n None later = if nat_lt n 64 then later else Some TooDeep

-- the first fault of parts that are numbered from n on
abbrev pub parts_fault : ℕ → List (List ℕ) → Option PathErr
parts_fault n [] = None
parts_fault n (part ∷ parts) = fault_at n (name_fault part) (parts_fault (n + 1) parts)

-- what keeps names from being a path, the first from the left
abbrev pub path_fault : List (List ℕ) → Option PathErr
path_fault parts = parts_fault 0 parts

-- all but the last name
abbrev pub parent_of : {N : Type 0} → List N → Option (List N)
parent_of [] = None
parent_of (n ∷ ns) = Some (take (length ns) (n ∷ ns))

-- the last name of a path; no characters for the root
abbrev pub last_name : List (List ℕ) → List ℕ
last_name [] = []
last_name (name ∷ []) = name
last_name (name ∷ next ∷ names) = last_name (next ∷ names)

-- the key of a path: its names, folded
abbrev pub key_of : List (List ℕ) → List (List ℕ)
key_of names = map folded names

-- the order of folded names, and of keys
abbrev pub name_cmp : List ℕ → List ℕ → Ordering
name_cmp = slice_cmp nat_cmp

abbrev pub key_cmp : List (List ℕ) → List (List ℕ) → Ordering
key_cmp = slice_cmp name_cmp

-- the least folded name behind a name, or of all
abbrev pub floor_of : Option (List ℕ) → List ℕ
floor_of None = []
floor_of (Some name) = folded name ++ 0 ∷ []
