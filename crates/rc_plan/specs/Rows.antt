-- The pairs of two sides in the order of their keys, each with its scope.
use Rattle.std.specs.Prelude.{◌≡◌, ℕ, ◌-◌, Bool, List, [], ◌∷◌, Option, option_map, map, length, nat_le, if◌then◌else◌}
use Rattle.std.specs.FinMap.{find, is_sorted}
use Rattle.rc_tree.specs.declared.attr.Kind.{Kind}
use Rattle.rc_tree.specs.Path.{key_cmp}
use Rattle.rc_tree.specs.Tree.{Tree}
use Rattle.rc_job.specs.declared.job.Job.{Job}
use Rattle.rc_filter.specs.Scope.{enters, is_above_in_scope}
use Rattle.rc_plan.specs.declared.pairs.Pair.{Pair}
use Rattle.rc_plan.specs.declared.rows.Row.{Row}
use Rattle.rc_plan.specs.Found.{seen_at}
use Rattle.rc_plan.specs.Pair.{pair_at, pair_key, pair_of, source_kind, target_kind}

-- a row under its key
abbrev pub placed_row : Row → List (List ℕ) × Row
placed_row row = (pair_key row.pair, row)

-- the row at a key
abbrev pub row_at : List Row → List (List ℕ) → Option Row
row_at rows key = find key_cmp key (map placed_row rows)

-- the keys rise strictly
abbrev pub are_rows_rising : List Row → Bool
are_rows_rising rows = is_sorted key_cmp (map placed_row rows)

-- Two whole trees

-- what two trees have at a key
abbrev pub pair_in : Tree → Tree → List (List ℕ) → Option Pair
pair_in source target key = pair_of (seen_at source key) (seen_at target key)

-- the pairs are those of all keys of two trees
abbrev pub ArePairsOf : Tree → Tree → List Pair → Type 0
ArePairsOf source target pairs = (key : List (List ℕ)) → pair_at pairs key ≡ pair_in source target key

-- a pair, and whether the directory above its key is in scope
abbrev pub row_in : Job → Tree → Tree → List (List ℕ) → Pair → Row
row_in job source target key pair = record { pair = pair; inside = is_above_in_scope job source target key }

-- the rows are those of all keys of two trees
abbrev pub AreRowsOf : Job → Tree → Tree → List Row → Type 0
AreRowsOf job source target rows =
    (key : List (List ℕ)) → row_at rows key ≡ option_map (row_in job source target key) (pair_in source target key)

-- One pair behind another

-- the directory above a key is gone into, where so many names of the path before lead through such
abbrev pub is_inside : ℕ → List (List ℕ) → Bool
is_inside depth key = nat_le (length key - 1) depth

-- how many names of a pair's path lead through directories that are gone into
abbrev pub names_open : Job → ℕ → List (List ℕ) → Option Kind → Option Kind → ℕ
names_open job depth key source target =
    if is_inside depth key then (if enters job key source target then length key else length key - 1) else depth

abbrev pub next_open : Job → ℕ → Pair → ℕ
next_open job depth pair = names_open job depth (pair_key pair) (source_kind pair) (target_kind pair)

-- the rows of pairs behind a path of which so many names lead through such directories
abbrev pub row_of : ℕ → Pair → Row
row_of depth pair = record { pair = pair; inside = is_inside depth (pair_key pair) }

abbrev pub rows_from : Job → ℕ → List Pair → List Row
rows_from job depth [] = []
rows_from job depth (pair ∷ pairs) = row_of depth pair ∷ rows_from job (next_open job depth pair) pairs
