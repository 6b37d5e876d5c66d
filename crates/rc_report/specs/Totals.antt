-- Totals and exit bits, by the items of a plan and the files that were given up.
use Rattle.std.specs.Prelude.{ℕ, ◌+◌, ◌<◌, Bool, true, false, not, ◌&&◌, List, [], ◌∷◌, map, get_or, sum_by, if◌then◌else◌, nat_lt}
use Rattle.std.specs.List.{enumerate_from}
use Rattle.rc_tree.specs.declared.attr.Kind.{Kind}
use Rattle.rc_tree.specs.declared.attr.Kind.TheVariants.{File, Dir}
use Rattle.rc_class.specs.declared.decision.Act.{Act}
use Rattle.rc_class.specs.declared.decision.Act.TheVariants as act
use Rattle.rc_class.specs.declared.item.Item.{Item}
use Rattle.rc_class.specs.declared.rules.GivenUp.{GivenUp}
use Rattle.rc_class.specs.Class.{is_extra}
use Rattle.rc_class.specs.Units.{is_copy}
use Rattle.rc_report.specs.Given.{is_named}
use Rattle.rc_report.specs.declared.totals.Column.{Column}
use Rattle.rc_report.specs.declared.totals.Column.TheVariants.{Total, Copied, Skipped, Mismatch, Failed, Extras}
use Rattle.rc_report.specs.declared.totals.Totals.{Totals}

-- Reported items

-- a decided key as it is reported, and whether its file was given up
pub record Reported : Type 0 where
  pub item : Item
  pub given_up : Bool

-- whether the item at a place is a file that was given up
abbrev pub is_given_up : List GivenUp → ℕ → Item → Bool
is_given_up failed place item = is_copy item.act && is_named failed place

abbrev pub reported_at : List GivenUp → ℕ × Item → Reported
reported_at failed placed =
    record { item = placed.1; given_up = is_given_up failed placed.0 placed.1 }

-- the items of a plan, by their places from 0
abbrev pub reported : List Item → List GivenUp → List Reported
reported items failed = map (reported_at failed) (enumerate_from 0 items)

-- Columns

abbrev pub columns : List Column
columns = Total ∷ Copied ∷ Skipped ∷ Mismatch ∷ Failed ∷ Extras ∷ []

-- whether the source has an entry of an item's key
abbrev pub has_source : Item → Bool
has_source item = not (is_extra item.class)

-- whether a key with this act counts in a column, by whether the source has an entry of it and
-- whether it was given up
abbrev pub counts_in : Column → Act → Bool → Bool → Bool
counts_in Total act in_source given_up = in_source
counts_in Copied act.Copy in_source given_up = not given_up
counts_in Copied act.Make in_source given_up = true
counts_in Copied other in_source given_up = false
counts_in Skipped act.Touch in_source given_up = in_source
counts_in Skipped act.Fix in_source given_up = in_source
counts_in Skipped (act.Keep reason) in_source given_up = in_source
counts_in Skipped other in_source given_up = false
counts_in Mismatch act.Mismatch in_source given_up = in_source
counts_in Mismatch other in_source given_up = false
counts_in Failed act.Copy in_source given_up = given_up
counts_in Failed other in_source given_up = false
counts_in Extras act.Extra in_source given_up = true
counts_in Extras act.Purge in_source given_up = true
counts_in Extras other in_source given_up = false

abbrev pub is_kind : Kind → Kind → Bool
is_kind File File = true
is_kind File Dir = false
is_kind Dir File = false
is_kind Dir Dir = true

-- whether an item counts in a column of the row of a kind
abbrev pub is_in : Kind → Reported → Column → Bool
is_in kind r column =
    is_kind kind r.item.facts.kind && counts_in column r.item.act (has_source r.item) r.given_up

-- Rows

-- a column's place in a row
abbrev pub place_of : Column → ℕ
place_of Total = 0
place_of Copied = 1
place_of Skipped = 2
place_of Mismatch = 3
place_of Failed = 4
place_of Extras = 5

abbrev pub count_in : Column → List ℕ → ℕ
count_in column row = get_or row (place_of column) 0

-- a row, and what one more item adds to each column
abbrev pub added : List ℕ → List ℕ → List ℕ
added row shares = map (λ (column : Column). count_in column row + count_in column shares) columns

-- the sums are below a bound
abbrev pub HasRoom : ℕ → List ℕ → List ℕ → Type 0
HasRoom bound row shares = (place : ℕ) → get_or row place 0 + get_or shares place 0 < bound

-- Sums

-- what an item of this value adds to a column
abbrev pub share_of : Kind → ℕ → Reported → Column → ℕ
share_of kind value r column = if is_in kind r column then value else 0

abbrev pub sum_in : Kind → (Reported → ℕ) → List Reported → Column → ℕ
sum_in kind value rs column = sum_by (λ r. share_of kind (value r) r column) rs

-- the sums of a row, column by column
abbrev pub row_of : Kind → (Reported → ℕ) → List Reported → List ℕ
row_of kind value rs = map (sum_in kind value rs) columns

-- how many keys, and how many bytes their files have
abbrev pub one_key : Reported → ℕ
one_key r = 1

abbrev pub size_of : Reported → ℕ
size_of r = r.item.facts.size

abbrev pub counted : List Reported → Totals
counted rs = record {
  dirs = row_of Dir one_key rs;
  files = row_of File one_key rs;
  bytes = row_of File size_of rs;
}

-- the totals of a plan's items, of which these files were given up
abbrev pub totals_of : List Item → List GivenUp → Totals
totals_of items failed = counted (reported items failed)

-- Exit bits

-- a bit where there was any
abbrev pub bit_where : ℕ → ℕ → ℕ
bit_where count value = if nat_lt 0 count then value else 0

-- 1 for copied files, 2 for extras, 4 for mismatches, 8 for files that were given up
abbrev pub bits_of : Totals → ℕ
bits_of t =
    bit_where (count_in Copied t.files) 1
    + bit_where (count_in Extras t.dirs + count_in Extras t.files) 2
    + bit_where (count_in Mismatch t.dirs + count_in Mismatch t.files) 4
    + bit_where (count_in Failed t.dirs + count_in Failed t.files) 8
