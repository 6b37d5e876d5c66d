-- The finite map that rows in memory make.
use Rattle.std.specs.Prelude.{◌≡◌, ◌≢◌, ◌≤◌, ℕ, List, length, Option, Some, None, IfSome}
use Rattle.std.specs.BTreeMap as btree
use Rattle.std.specs.BTreeMap.{BTreeMap}
use Rattle.std.specs.declared.ops.Bound.{Bound}
use Rattle.std.specs.declared.ops.Bound.TheVariants.{Excluded, Unbounded}
use Rattle.std.specs.FinMap.{from_entries, get}
use Rattle.rc_tree.specs.Path.{name_cmp}
use Rattle.rc_table.specs.declared.row.Row.{Row}
use Rattle.rc_table.specs.Rows.{RowMap, greatest_path_text}

abbrev pub held : BTreeMap (List ℕ) Row → RowMap
held rows = from_entries rows.entries

-- each row stands at a path text that is short enough
abbrev pub AreBounded : BTreeMap (List ℕ) Row → Type 0
AreBounded rows = (path : List ℕ) → IfSome (btree.get name_cmp rows path) (λ _. length path ≤ greatest_path_text)

-- the new map has this at the path, and at the others what the old one has
pub record PutsAt (path : List ℕ) (row : Option Row) (old new : RowMap) : Type 0 where
  pub here : get new path ≡ row
  pub others : (other : List ℕ) → other ≢ path → get new other ≡ get old other

-- where a listing behind that text starts
abbrev pub start_of : Option (List ℕ) → Bound (List ℕ)
start_of None = Unbounded
start_of (Some last) = Excluded last
