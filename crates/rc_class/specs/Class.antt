-- When two written times are the same, and how the two sides of a key compare.
use Rattle.std.specs.Prelude.{ℕ, Bool, true, false, not, ◌&&◌, ◌||◌, ◌==◌, nat_le, nat_lt, if◌then◌else◌, length, Option, Some, None}
use Rattle.std.specs.Bool.{beq}
use Rattle.std.specs.Int.{abs_diff}
use Rattle.rc_tree.specs.declared.attr.Attr.{Attr}
use Rattle.rc_tree.specs.declared.attr.Kind.{Kind}
use Rattle.rc_tree.specs.declared.attr.Kind.TheVariants.{File, Dir}
use Rattle.rc_tree.specs.Tree.{Node}
use Rattle.rc_class.specs.declared.class.Class.{Class}
use Rattle.rc_class.specs.declared.class.Class.TheVariants.{Lonely, Extra, Newer, Older, Changed, Tweaked, Same, Mismatched}
use Rattle.rc_class.specs.declared.facts.Facts.{Facts}
use Rattle.rc_class.specs.declared.facts.Grain.{Grain}

-- how far two times may be apart: 2 seconds where file times are as coarse as on FAT, in units of 100 nanoseconds
abbrev pub width : Grain → ℕ
width grain = if grain.fft then 20000000 else 0

-- one hour, by which daylight saving shifts a local time
abbrev pub hour : ℕ
hour = 36000000000

abbrev pub is_same_time : Grain → ℕ → ℕ → Bool
is_same_time grain a b =
    nat_le (abs_diff a b) (width grain) || (grain.dst && nat_le (abs_diff (abs_diff a b) hour) (width grain))

-- whether the attributes that a mirror compares are the same
abbrev pub is_same_attr : Attr → Attr → Bool
is_same_attr a b =
    beq a.readonly b.readonly && (beq a.hidden b.hidden && (beq a.system b.system
    && (beq a.archive b.archive && (beq a.temporary b.temporary && beq a.not_indexed b.not_indexed))))

-- of two files: first their times, then their sizes, then their attributes
abbrev pub class_of_files : Grain → Facts → Facts → Class
class_of_files grain source target =
    if not (is_same_time grain source.written target.written) then (if nat_lt target.written source.written then Newer else Older)
    else if not (source.size == target.size) then Changed
    else if not (is_same_attr source.attr target.attr) then Tweaked
    else Same

-- of two entries, where two files have this class
abbrev pub class_of_kinds : Kind → Kind → Class → Class
class_of_kinds File File class = class
class_of_kinds File Dir class = Mismatched
class_of_kinds Dir File class = Mismatched
class_of_kinds Dir Dir class = Same

-- of a source entry, against what the target has there
abbrev pub class_against : Grain → Facts → Option Facts → Class
class_against grain source None = Lonely
class_against grain source (Some target) = class_of_kinds source.kind target.kind (class_of_files grain source target)

-- of the two sides of a key; none where neither has an entry
abbrev pub class_at : Grain → Option Facts → Option Facts → Option Class
class_at grain (Some source) target = Some (class_against grain source target)
class_at grain None (Some target) = Some Extra
class_at grain None None = None

-- the facts of what stands at a key
abbrev pub facts_of : Node → Facts
facts_of node = record { kind = node.kind; size = length node.bytes; written = node.props.written; attr = node.props.attr }

-- Classes

-- the target has nothing
abbrev pub is_lonely : Class → Bool
is_lonely Lonely = true
is_lonely _ = false

-- the source has nothing
abbrev pub is_extra : Class → Bool
is_extra Extra = true
is_extra _ = false

-- a file and a directory
abbrev pub is_mismatched : Class → Bool
is_mismatched Mismatched = true
is_mismatched _ = false
