-- What the columns of a database file hold of a row.
use Rattle.std.specs.Prelude.{◌≡◌, List, pos}
use Rattle.rc_tree.specs.declared.attr.Kind.TheVariants.{File}
use Rattle.rc_tree.specs.Attr.{stored_of}
use Rattle.sqlite_value.specs.Order.{column}
use Rattle.sqlite_value.specs.declared.value.Value.{Value}
use Rattle.sqlite_value.specs.declared.value.Value.TheVariants.{Blob, Int}
use Rattle.rc_table.specs.declared.row.Row.{Row}
use Rattle.rc_table.specs.declared.stored.Numbers.{Numbers}

-- the numbers are those of the row, its attributes in the stored form of a file
pub record AreNumbersOf (row : Row) (numbers : Numbers) : Type 0 where
  pub attr : numbers.attr ≡ stored_of File row.props.attr
  pub created : numbers.created ≡ pos row.props.created
  pub written : numbers.written ≡ pos row.props.written
  pub size : numbers.size ≡ pos row.size

-- the columns attr, created, written, access, owner, audit, size and digest are those of the row
pub record HoldsRow (columns : List Value) (row : Row) : Type 0 where
  pub attr : column columns 0 ≡ Int (pos (stored_of File row.props.attr))
  pub created : column columns 1 ≡ Int (pos row.props.created)
  pub written : column columns 2 ≡ Int (pos row.props.written)
  pub access : column columns 3 ≡ Blob row.props.access
  pub owner : column columns 4 ≡ Blob row.props.owner
  pub audit : column columns 5 ≡ Blob row.props.audit
  pub size : column columns 6 ≡ Int (pos row.size)
  pub digest : column columns 7 ≡ Blob row.digest
