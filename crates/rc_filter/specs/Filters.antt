-- What the filters of a job say of a file's facts. A value that equals a bound passes.
use Rattle.std.specs.Prelude.{ℕ, ◌-◌, ◌*◌, Bool, false, not, ◌&&◌, ◌||◌, nat_lt, if◌then◌else◌, Option, Some, option_and_then}
use Rattle.std.specs.Option.{option_map_or}
use Rattle.std.specs.Result.{result_ok}
use Rattle.rc_tree.specs.declared.attr.Attr.{Attr}
use Rattle.rc_dates.specs.Dates.{date_moment}
use Rattle.rc_job.specs.declared.job.Job.{Job}

-- Attributes

-- two have an attribute in common that a mirror compares
abbrev pub share_compared : Attr → Attr → Bool
share_compared a b =
    (a.readonly && b.readonly) || (a.hidden && b.hidden) || (a.system && b.system)
    || (a.archive && b.archive) || (a.temporary && b.temporary) || (a.not_indexed && b.not_indexed)

-- or one of the others
abbrev pub share_other : Attr → Attr → Bool
share_other a b =
    (a.sparse && b.sparse) || (a.compressed && b.compressed) || (a.offline && b.offline) || (a.encrypted && b.encrypted)

abbrev pub share_attr : Attr → Attr → Bool
share_attr a b = share_compared a b || share_other a b

-- there is one at all
abbrev pub has_attr : Attr → Bool
has_attr a = share_attr a a

-- `/A` or `/M` asks for the attribute archive, and it lacks that
abbrev pub lacks_archive : Job → Attr → Bool
lacks_archive job attr = (job.only_a || job.only_m) && not attr.archive

-- `/IA` asks for one of some, and it has none of them
abbrev pub lacks_asked : Job → Attr → Bool
lacks_asked job attr = has_attr job.ia && not (share_attr job.ia attr)

-- a file's attributes are not those asked for; `/XA` asks for none of some
abbrev pub is_wrong_attr : Job → Attr → Bool
is_wrong_attr job attr = lacks_archive job attr || lacks_asked job attr || share_attr job.xa attr

-- Sizes

abbrev pub is_above : Option ℕ → ℕ → Bool
is_above bound n = option_map_or (λ most. nat_lt most n) bound false

abbrev pub is_below : Option ℕ → ℕ → Bool
is_below bound n = option_map_or (λ least. nat_lt n least) bound false

-- a file's size is above that of `/MAX`, or below that of `/MIN`
abbrev pub is_wrong_size : Job → ℕ → Bool
is_wrong_size job size = is_above job.max size || is_below job.min size

-- Ages

-- what a number below 1900 stands for at a moment: that many days before it, or the start of 1601 where that comes later;
-- and another: midnight of the date that is written so, and no moment where there is no such date from 1601 on
abbrev pub cutoff : ℕ → ℕ → Option ℕ
cutoff moment age = if nat_lt age 1900 then Some (moment - age * 864000000000) else result_ok (date_moment age)

abbrev pub cutoff_of : ℕ → Option ℕ → Option ℕ
cutoff_of moment age = option_and_then (cutoff moment) age

-- a file was written before the moment of `/MAXAGE`, or after that of `/MINAGE`
abbrev pub is_wrong_age : Job → ℕ → ℕ → Bool
is_wrong_age job moment written = is_below (cutoff_of moment job.maxage) written || is_above (cutoff_of moment job.minage) written
