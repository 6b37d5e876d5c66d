-- What a property table holds, and what its calls answer and leave.
use Rattle.std.specs.Prelude.{◌≡◌, ◌≢◌, ◌⊎◌, ℕ, ◌≤◌, ⊤, Bool, true, false, List, length, Option, Some, None, IsSome, MatchOption, Result, Ok, Err}
use Rattle.std.specs.FinMap.{FinMap, get}
use Rattle.std.specs.declared.cmp.Ordering.TheVariants.{Less}
use Rattle.rc_tree.specs.Path.{name_cmp}
use Rattle.rc_volume.specs.Site.{other_side}
use Rattle.rc_volume.specs.declared.site.Side.{Side}
use Rattle.rc_volume.specs.declared.site.Side.TheVariants.{Source, Target}
use Rattle.rc_table.specs.declared.row.Row.{Row}
use Rattle.rc_table.specs.declared.table.TableErr.{TableErr}
use Rattle.rc_table.specs.declared.table.TableErr.TheVariants.{Failed, NoMemory}

-- from path texts to rows
abbrev pub RowMap : Type 0
RowMap = FinMap name_cmp Row

-- the rows of both sides
pub record Rows : Type 0 where
  pub source : RowMap
  pub target : RowMap

abbrev pub rows_of : Rows → Side → RowMap
rows_of rows Source = rows.source
rows_of rows Target = rows.target

-- the row at a path text of a side
abbrev pub row_at : Rows → Side → List ℕ → Option Row
row_at rows side path = get (rows_of rows side) path

-- Changes

-- what stands at one path of one side changed so, and nothing else
pub record ChangesRow (side : Side) (path : List ℕ) (change : Option Row → Option Row → Type 0) (old new : Rows) : Type 0 where
  pub here : change (row_at old side path) (row_at new side path)
  pub others : (other : List ℕ) → other ≢ path → row_at new side other ≡ row_at old side other
  pub elsewhere : rows_of new (other_side side) ≡ rows_of old (other_side side)

-- what a call leaves at the path that it was to leave so: that where it succeeded, that or what stood where it failed, and
-- what stood where memory ran out
abbrev pub Leaves : {T : Type 0} → Result T TableErr → Option Row → Option Row → Option Row → Type 0
Leaves (Ok value) wanted old new = new ≡ wanted
Leaves (Err Failed) wanted old new = (new ≡ wanted) ⊎ (new ≡ old)
Leaves (Err NoMemory) wanted old new = new ≡ old

-- whether a call failed, which want of memory is not
abbrev pub table_failed : {T : Type 0} → Result T TableErr → Bool
table_failed (Ok value) = false
table_failed (Err Failed) = true
table_failed (Err NoMemory) = false

-- Listings

-- how many characters a path text has at most: 64 names of 255, and what stands between them
abbrev pub greatest_path_text : ℕ
greatest_path_text = 16383

-- the text is above that one, where there is one
abbrev pub IsAbove : Option (List ℕ) → List ℕ → Type 0
IsAbove None text = ⊤
IsAbove (Some last) text = name_cmp last text ≡ Less

-- the text is the least above that one at which a row stands
pub record IsNextPath (rows : RowMap) (after : Option (List ℕ)) (text : List ℕ) : Type 0 where
  pub stands : IsSome (get rows text)
  pub above : IsAbove after text
  pub least : (other : List ℕ) → IsAbove after other → name_cmp other text ≡ Less → get rows other ≡ None

-- no row stands above that text
abbrev pub IsEnd : RowMap → Option (List ℕ) → Type 0
IsEnd rows after = (other : List ℕ) → IsAbove after other → get rows other ≡ None

-- what a listing answers behind that text
abbrev pub FindsNext : RowMap → Option (List ℕ) → Option (List ℕ) → Type 0
FindsNext rows after found = MatchOption found (IsEnd rows after) (IsNextPath rows after)

-- what every listing answers, told or not
pub record IsListed (after : Option (List ℕ)) (text : List ℕ) : Type 0 where
  pub above : IsAbove after text
  pub bound : length text ≤ greatest_path_text
