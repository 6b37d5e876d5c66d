-- What a job does at a decided key, by what both sides have there and what lies around it.
use Rattle.std.specs.Prelude.{ℕ, Bool, true, false, not, ◌&&◌, ◌||◌, ◌==◌, if◌then◌else◌, List, Option, None, Some}
use Rattle.rc_tree.specs.declared.attr.Kind.{Kind}
use Rattle.rc_tree.specs.declared.attr.Kind.TheVariants.{File, Dir}
use Rattle.rc_tree.specs.declared.entry.Entry.{Entry}
use Rattle.rc_tree.specs.declared.props.Props.{Props}
use Rattle.rc_tree.specs.Tree.{Node}
use Rattle.rc_class.specs.declared.class.Class.{Class}
use Rattle.rc_class.specs.declared.class.Class.TheVariants as class
use Rattle.rc_class.specs.declared.decision.Act.{Act}
use Rattle.rc_class.specs.declared.decision.Act.TheVariants.{Copy, Make, Touch, Fix, Purge, Extra, Mismatch, Keep}
use Rattle.rc_class.specs.declared.decision.Reason.{Reason}
use Rattle.rc_class.specs.declared.decision.Reason.TheVariants as reason
use Rattle.rc_class.specs.declared.facts.Facts.{Facts}
use Rattle.rc_class.specs.declared.facts.Grain.{Grain}
use Rattle.rc_class.specs.declared.rules.Rules.{Rules}
use Rattle.rc_class.specs.Class.{class_against, is_extra, is_lonely, is_mismatched, is_same_attr}
use Rattle.rc_job.specs.declared.flags.DirectoryFlags.{DirectoryFlags}
use Rattle.rc_job.specs.declared.job.Job.{Job}
use Rattle.rc_job.specs.declared.choices.Sub.{Sub}
use Rattle.rc_job.specs.declared.choices.Sub.TheVariants as sub
use Rattle.rc_filter.specs.Filters.{is_wrong_age, is_wrong_attr, is_wrong_size}
use Rattle.rc_filter.specs.Matching.{is_excluded_directory, is_excluded_file, is_named}

-- how exactly a job compares written times
abbrev pub grain_of : Job → Grain
grain_of job = record { fft = job.fft; dst = job.dst }

-- Files

-- whether a job leaves the files of a class as they are
abbrev pub is_excluded_class : Job → Class → Bool
is_excluded_class job class.Lonely = job.xl
is_excluded_class job class.Newer = job.xn
is_excluded_class job class.Older = job.xo
is_excluded_class job class.Changed = job.xc
is_excluded_class job class.Same = not job.with_same
is_excluded_class job class.Tweaked = not job.with_tweaked
is_excluded_class job class.Extra = false
is_excluded_class job class.Mismatched = false

-- why a source file of a class is not copied: the first reason that holds
abbrev pub kept_for : Job → ℕ → List (List ℕ) → Facts → Class → Option Reason
kept_for job moment key source class =
    if not (is_named job key) then Some reason.NotNamed
    else if is_excluded_file job key then Some reason.Excluded
    else if is_wrong_attr job source.attr then Some reason.Attr
    else if is_wrong_size job source.size then Some reason.Size
    else if is_wrong_age job moment source.written then Some reason.Age
    else if is_excluded_class job class then Some reason.Class
    else None

-- an act, unless there is a reason to keep all as it is
abbrev pub unless : Option Reason → Act → Act
unless None act = act
unless (Some reason) act = Keep reason

-- a file of this class stands on both sides, and times or security are mended
abbrev pub is_mended : Job → Class → Bool
is_mended job class = not (is_lonely class || is_extra class) && (job.secfix || job.timfix)

-- an act; but where files are mended, one that would be kept for its class is
abbrev pub mended : Bool → Act → Act
mended mends (Keep reason.Class) = if mends then Fix else Keep reason.Class
mended mends act = act

abbrev pub class_act : Job → ℕ → List (List ℕ) → Facts → Class → Act
class_act job moment key source class =
    if is_mismatched class then Mismatch
    else mended (is_mended job class) (unless (kept_for job moment key source class) Copy)

-- what a job does with the source file of this key and these facts, where the target has that there
abbrev pub file_act : Job → ℕ → List (List ℕ) → Facts → Option Facts → Act
file_act job moment key source target = class_act job moment key source (class_against (grain_of job) source target)

-- Directories

abbrev pub is_all : Sub → Bool
is_all sub.None = false
is_all sub.NonEmpty = false
is_all sub.All = true

abbrev pub are_same_times : Props → Props → Bool
are_same_times source target = (source.created == target.created) && (source.written == target.written)

-- whether a directory's flags name a property in which two differ
abbrev pub differ : DirectoryFlags → Props → Props → Bool
differ flags source target =
    (flags.attributes && not (is_same_attr source.attr target.attr))
    || (flags.times && not (are_same_times source target))

-- a source directory where the target has nothing: under `/S` alone it is made where some file at or below it is copied
abbrev pub lonely_act : Job → List (List ℕ) → Bool → Act
lonely_act job key some_copied =
    if is_excluded_directory job key then Keep reason.Excluded
    else if job.xl then Keep reason.Class
    else if is_all job.sub || some_copied then Make
    else Keep reason.Empty

-- and where the target has an entry of this kind and these properties
abbrev pub standing_act : Job → List (List ℕ) → Props → Kind → Props → Act
standing_act job key source File target = Mismatch
standing_act job key source Dir target =
    if is_excluded_directory job key then Keep reason.Excluded
    else if differ job.dcopy source target then Touch
    else Keep reason.Same

-- what a job does with the source directory of this key and these properties, where the target has that there
abbrev pub directory_act : Job → List (List ℕ) → Props → Option (Kind × Props) → Bool → Act
directory_act job key source None some_copied = lonely_act job key some_copied
directory_act job key source (Some there) some_copied = standing_act job key source there.0 there.1

-- what of an entry a directory is decided by
abbrev pub kind_and_props : Entry → Kind × Props
kind_and_props entry = (entry.kind, entry.props)

abbrev pub kind_and_props_of : Node → Kind × Props
kind_and_props_of node = (node.kind, node.props)

-- Extras

abbrev pub extra_file_act : Job → List (List ℕ) → Act
extra_file_act job key =
    if is_excluded_file job key then Keep reason.Excluded
    else if not (is_named job key) then (if job.all_extras then Extra else Keep reason.NotNamed)
    else if job.purge then Purge
    else Extra

-- a directory, where all that the target has below it is removed or something stays
abbrev pub extra_directory_act : Job → List (List ℕ) → Bool → Act
extra_directory_act job key all_purged =
    if is_excluded_directory job key then Keep reason.Excluded
    else if all_purged && job.purge then Purge
    else Extra

abbrev pub extra_act_of : Job → List (List ℕ) → Kind → Bool → Act
extra_act_of job key File all_purged = extra_file_act job key
extra_act_of job key Dir all_purged = extra_directory_act job key all_purged

-- what a job does with an entry of this kind that the target alone has
abbrev pub extra_act : Job → List (List ℕ) → Kind → Bool → Act
extra_act job key kind all_purged = if job.xx then Keep reason.Class else extra_act_of job key kind all_purged

-- Properties

-- what goes from a source entry to the target's
abbrev pub rules_of : Job → Rules
rules_of job = record {
  attr = job.copy.attributes;
  times = job.copy.times;
  access = job.copy.security;
  owner = job.copy.owner;
  audit = job.copy.auditing;
  dir_attr = job.dcopy.attributes;
  dir_times = job.dcopy.times;
  plus = job.plus;
  minus = job.minus;
  secfix = job.secfix;
  timfix = job.timfix;
}

-- copies have the source's bytes: under D, and not under `/CREATE`
abbrev pub copies_bytes : Job → Bool
copies_bytes job = job.copy.data_bytes && not job.create
