-- Worked rows of what a stop may leave at one key of the target.
use Rattle.std.specs.Prelude.{ℕ, List, [], ◌∷◌, Option, Some, None, map, length}
use Rattle.std.specs.FinMap.{empty}
use Rattle.rc_tree.specs.declared.attr.Kind.TheVariants.{Dir, File}
use Rattle.rc_tree.specs.declared.props.Props.{Props}
use Rattle.rc_tree.specs.Tree.{Node}
use Rattle.rc_volume.specs.declared.site.Side.TheVariants.{Target}
use Rattle.rc_volume.specs.Images.{GoesBy}
use Rattle.rc_volume.specs.Log.{EntryCall, Event, changed, make, synced}
use Rattle.rc_volume.specs.Site.{no_props}

-- the key of the file b
abbrev pub row_key : List (List ℕ)
row_key = (98 ∷ []) ∷ []

-- the file b with these bytes
abbrev pub row_file : List ℕ → Node
row_file bytes = record { spelling = 98 ∷ []; kind = File; bytes = bytes; props = no_props }

-- no properties but this time of making and this one of writing
abbrev pub times : ℕ → ℕ → Props
times created written = record no_props { created = created; written = written }

-- what was at the key, and what a stop may leave there behind these calls
abbrev pub Leaves : Option Node → List EntryCall → Option Node → Type 0
Leaves old calls new = GoesBy Target row_key (map (changed Target row_key) calls) old new

-- how many bytes stand there
abbrev pub size_at : Option Node → ℕ
size_at None = 0
size_at (Some node) = length node.bytes

-- the directory b without anything, and the key of the file c in it
abbrev pub row_directory : Node
row_directory = record { spelling = 98 ∷ []; kind = Dir; bytes = []; props = no_props }

abbrev pub child_key : List (List ℕ)
child_key = (98 ∷ []) ∷ (99 ∷ []) ∷ []

-- both are made on a target that had nothing
abbrev pub child_log : List Event
child_log =
    synced Target empty
    ∷ changed Target row_key (make row_directory)
    ∷ changed Target child_key (make (record { spelling = 99 ∷ []; kind = File; bytes = []; props = no_props }))
    ∷ []
