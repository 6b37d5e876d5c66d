-- The text of a report.
use Rattle.std.specs.Prelude.{ℕ, ◌-◌, ◌*◌, ◌/◌, ◌%◌, Bool, true, false, not, ◌&&◌, ◌||◌, List, [], ◌∷◌, ◌++◌, Option, Some, None, length, replicate, codes, decimal, flat_map, encode_utf8_all, if◌then◌else◌, nat_lt}
use Rattle.rc_tree.specs.declared.attr.Kind.{Kind}
use Rattle.rc_tree.specs.declared.attr.Kind.TheVariants.{File, Dir}
use Rattle.rc_class.specs.declared.class.Class.{Class}
use Rattle.rc_class.specs.declared.class.Class.TheVariants as class
use Rattle.rc_class.specs.declared.decision.Act.{Act}
use Rattle.rc_class.specs.declared.decision.Act.TheVariants as act
use Rattle.rc_class.specs.declared.facts.Facts.{Facts}
use Rattle.rc_class.specs.declared.item.Item.{Item}
use Rattle.rc_class.specs.declared.rules.GivenUp.{GivenUp}
use Rattle.rc_class.specs.Class.{is_extra}
use Rattle.rc_job.specs.declared.job.Job.{Job}
use Rattle.rc_report.specs.declared.totals.Column.{Column}
use Rattle.rc_report.specs.declared.totals.Column.TheVariants.{Total, Copied, Skipped, Mismatch, Failed, Extras}
use Rattle.rc_report.specs.declared.totals.Totals.{Totals}
use Rattle.rc_report.specs.Stamps.{stamp_of}
use Rattle.rc_report.specs.Totals.{columns, reported, totals_of, Reported}

-- Places and parts

-- a text of ASCII characters at the left or at the right of so many places; a longer one is whole
abbrev pub left_in : ℕ → List ℕ → List ℕ
left_in width text = text ++ replicate (width - length text) 32

abbrev pub right_in : ℕ → List ℕ → List ℕ
right_in width text = replicate (width - length text) 32 ++ text

abbrev pub line_end : List ℕ
line_end = 10 ∷ []

-- texts with a separator between them
abbrev pub joined : ℕ → List (List ℕ) → List ℕ
joined separator [] = []
joined separator (text ∷ texts) =
    encode_utf8_all text ++ flat_map (λ (next : List ℕ). separator ∷ encode_utf8_all next) texts

-- the names of a path with `\` between them
abbrev pub path_text : List (List ℕ) → List ℕ
path_text path = joined 92 path

-- a root as it was given; one that was not is empty
abbrev pub root_text : Option (List ℕ) → List ℕ
root_text None = []
root_text (Some root) = encode_utf8_all root

-- Sizes

-- the tenths of a size in this unit, rounded down
abbrev pub tenths : ℕ → ℕ → ℕ
tenths unit size = size * 10 / unit

abbrev pub in_tenths : ℕ → ℕ → List ℕ
in_tenths unit size =
    decimal (tenths unit size / 10) ++ codes "." ++ decimal (tenths unit size % 10)

-- a size: a plain number where that is asked for or it is below 1 MiB, else in MiB, and from 1 GiB
-- on in GiB
abbrev pub size_text : Bool → ℕ → List ℕ
size_text plain size =
    if plain || nat_lt size 1048576 then decimal size
    else if nat_lt size 1073741824 then in_tenths 1048576 size ++ codes " m"
    else in_tenths 1073741824 size ++ codes " g"

-- The header

abbrev pub header_of : Job → ℕ → List ℕ
header_of job moment =
    codes "ROBOCOPY\n  Source : " ++ root_text job.source
    ++ codes "\n  Dest   : " ++ root_text job.target
    ++ codes "\n  Moment : " ++ encode_utf8_all (stamp_of moment)
    ++ codes "\n  Files  : " ++ joined 32 job.files ++ codes "\n\n"

-- Tags

-- what a copy is called by the class of its file
abbrev pub class_tag : Class → List ℕ
class_tag class.Lonely = codes "New File"
class_tag class.Extra = codes "*EXTRA File"
class_tag class.Newer = codes "Newer"
class_tag class.Older = codes "Older"
class_tag class.Changed = codes "Changed"
class_tag class.Tweaked = codes "Tweaked"
class_tag class.Same = codes "Same"
class_tag class.Mismatched = codes "*Mismatch"

-- what an entry that the target alone has is called
abbrev pub extra_tag : Kind → List ℕ
extra_tag File = codes "*EXTRA File"
extra_tag Dir = codes "*EXTRA Dir"

-- what a key is called by its act
abbrev pub act_tag : Act → Class → Kind → List ℕ
act_tag act.Copy class kind = class_tag class
act_tag act.Make class kind = codes "New Dir"
act_tag act.Touch class kind = codes "Dir"
act_tag act.Fix class kind = codes "Fixed"
act_tag act.Purge class kind = extra_tag kind
act_tag act.Extra class kind = extra_tag kind
act_tag act.Mismatch class kind = codes "*Mismatch"
act_tag (act.Keep reason) class kind = codes "skipped"

abbrev pub tag_of : Reported → List ℕ
tag_of r = if r.given_up then codes "FAILED" else act_tag r.item.act r.item.class r.item.facts.kind

-- Lines

-- whether directories, or files, have no lines
abbrev pub is_hidden : Job → Kind → Bool
is_hidden job File = job.nfl
is_hidden job Dir = job.ndl

abbrev pub is_kept : Act → Bool
is_kept (act.Keep reason) = true
is_kept other = false

-- whether a key has a line; what is kept has one under `/V` alone
abbrev pub is_shown : Job → Item → Bool
is_shown job item =
    not (is_hidden job item.facts.kind) && (job.verbose || not (is_kept item.act))

-- a directory has no size
abbrev pub entry_size : Bool → Kind → ℕ → List ℕ
entry_size plain File size = size_text plain size
entry_size plain Dir size = codes "-"

-- what stands behind a path: a directory has a `\`
abbrev pub path_end : Kind → List ℕ
path_end File = []
path_end Dir = codes "\\"

abbrev pub tag_column : Bool → Reported → List ℕ
tag_column without r = if without then [] else left_in 12 (tag_of r)

abbrev pub size_column : Job → Facts → List ℕ
size_column job facts =
    if job.ns then [] else right_in 12 (entry_size job.plain_bytes facts.kind facts.size)

abbrev pub time_column : Bool → ℕ → List ℕ
time_column with written =
    if with then codes "  " ++ encode_utf8_all (stamp_of written) else []

-- the root that an entry of this class stands below
abbrev pub root_of : Job → Class → Option (List ℕ)
root_of job class = if is_extra class then job.target else job.source

abbrev pub path_front : Job → Class → List ℕ
path_front job class =
    if job.full_path then root_text (root_of job class) ++ codes "\\" else []

-- the line of a key that has one
abbrev pub shown_line : Job → Reported → List ℕ
shown_line job r =
    codes "  " ++ tag_column job.nc r ++ size_column job r.item.facts
    ++ time_column job.with_time r.item.facts.written
    ++ codes "  " ++ path_front job r.item.class ++ path_text r.item.path
    ++ path_end r.item.facts.kind ++ line_end

abbrev pub line_of : Job → Reported → List ℕ
line_of job r = if is_shown job r.item then shown_line job r else []

-- The summary

abbrev pub title : Column → List ℕ
title Total = codes "Total"
title Copied = codes "Copied"
title Skipped = codes "Skipped"
title Mismatch = codes "Mismatch"
title Failed = codes "FAILED"
title Extras = codes "Extras"

abbrev pub title_line : List ℕ
title_line =
    replicate 9 32 ++ flat_map (λ (column : Column). right_in 10 (title column)) columns ++ line_end

-- what a row begins with
abbrev pub row_front : List ℕ → List ℕ
row_front name = right_in 7 name ++ codes " :"

-- the sizes of a row, or plain numbers
abbrev pub row_sizes : Bool → List ℕ → List ℕ
row_sizes plain row = flat_map (λ (size : ℕ). right_in 10 (size_text plain size)) row

abbrev pub row_line : List ℕ → Bool → List ℕ → List ℕ
row_line name plain row = row_front name ++ row_sizes plain row ++ line_end

-- an empty line, the titles and the three rows
abbrev pub summary_of : Bool → Totals → List ℕ
summary_of plain t =
    line_end ++ title_line ++ row_line (codes "Dirs") true t.dirs
    ++ row_line (codes "Files") true t.files ++ row_line (codes "Bytes") plain t.bytes

-- The report

abbrev pub header_part : Job → ℕ → List ℕ
header_part job moment = if job.njh then [] else header_of job moment

-- a line for each key that has one
abbrev pub lines_of : Job → List Item → List GivenUp → List ℕ
lines_of job items failed = flat_map (line_of job) (reported items failed)

abbrev pub summary_part : Job → List Item → List GivenUp → List ℕ
summary_part job items failed =
    if job.njs then [] else summary_of job.plain_bytes (totals_of items failed)

-- the header, the lines and the summary of what was decided at a moment
abbrev pub report_of : Job → ℕ → List Item → List GivenUp → List ℕ
report_of job moment items failed =
    header_part job moment ++ (lines_of job items failed ++ summary_part job items failed)
