-- What stands among settings, and the values that they give.
use Rattle.std.specs.Prelude.{ℕ, Bool, false, ◌==◌, List, [], ◌∷◌, Option, None, Some, min, codes, is_some, if◌then◌else◌}
use Rattle.std.specs.List.{filter_map}
use Rattle.rc_tree.specs.Attr.{no_attr}
use Rattle.rc_tree.specs.declared.attr.Attr.{Attr}
use Rattle.rc_tree.specs.declared.entry.Scan.{Scan}
use Rattle.rc_tree.specs.declared.entry.Scan.TheVariants as scan
use Rattle.rc_job.specs.declared.flags.CopyFlags.{CopyFlags}
use Rattle.rc_job.specs.declared.flags.DirectoryFlags.{DirectoryFlags}
use Rattle.rc_job.specs.declared.lists.Exclude.{Exclude}
use Rattle.rc_words.specs.declared.setting.Placed.{Placed}
use Rattle.rc_words.specs.declared.setting.Setting.{Setting}
use Rattle.rc_words.specs.declared.setting.Setting.TheVariants as setting

-- Look-ups: a switch is named by its number, its place in the switch table (`shared` and `alone` in `rc_words`), from 0

-- the number of the switch that a setting is of
abbrev pub number_of : Setting → ℕ
number_of (setting.Source root) = 0
number_of (setting.Target root) = 1
number_of (setting.File pattern) = 4
number_of (setting.ExcludeFile value) = 27
number_of (setting.ExcludeDir value) = 28
number_of (setting.Switch number) = number
number_of (setting.Copy flags) = 13
number_of (setting.Directory flags) = 17
number_of (setting.Attributes number attr) = number
number_of (setting.Number number value) = number
number_of (setting.Scanning scan) = 60
number_of (setting.JobFile name) = 68
number_of (setting.Save name) = 69

-- the first setting of a switch
abbrev pub given : ℕ → List Placed → Option Setting
given n [] = None
given n (p ∷ ps) = if number_of p.setting == n then Some p.setting else given n ps

abbrev pub has : ℕ → List Placed → Bool
has n settings = is_some (given n settings)

-- Values

abbrev pub root_in : Option Setting → Option (List ℕ)
root_in (Some (setting.Source root)) = Some root
root_in (Some (setting.Target root)) = Some root
root_in other = None

abbrev pub number_in : Option Setting → Option ℕ
number_in (Some (setting.Number number value)) = Some value
number_in other = None

-- a number of 32 bits; a greater one, which no word gives, counts as the greatest
abbrev pub small : ℕ → ℕ
small n = min n 4294967295

abbrev pub small_in : Option Setting → Option ℕ
small_in (Some (setting.Number number value)) = Some (small value)
small_in other = None

abbrev pub small_or : ℕ → Option Setting → ℕ
small_or default (Some (setting.Number number value)) = small value
small_or default other = default

abbrev pub attr_in : Option Setting → Attr
attr_in (Some (setting.Attributes number attr)) = attr
attr_in other = no_attr

abbrev pub scan_in : Option Setting → Scan
scan_in (Some (setting.Scanning scan)) = scan
scan_in other = scan.Size

-- no letters, where they were not given
abbrev pub copy_in : Option Setting → CopyFlags
copy_in (Some (setting.Copy flags)) = flags
copy_in other = record { data_bytes = false; attributes = false; times = false; security = false; owner = false; auditing = false }

abbrev pub directory_in : Option Setting → DirectoryFlags
directory_in (Some (setting.Directory flags)) = flags
directory_in other = record { attributes = false; times = false }

abbrev pub file_of : Setting → Option (List ℕ)
file_of (setting.File pattern) = Some pattern
file_of other = None

abbrev pub excluded_file_of : Setting → Option Exclude
excluded_file_of (setting.ExcludeFile value) = Some value
excluded_file_of other = None

abbrev pub excluded_dir_of : Setting → Option Exclude
excluded_dir_of (setting.ExcludeDir value) = Some value
excluded_dir_of other = None

-- Lists, in the order of the words

abbrev pub files_in : List Placed → List (List ℕ)
files_in settings = filter_map (λ p. file_of p.setting) settings

abbrev pub excluded_files_in : List Placed → List Exclude
excluded_files_in settings = filter_map (λ p. excluded_file_of p.setting) settings

abbrev pub excluded_dirs_in : List Placed → List Exclude
excluded_dirs_in settings = filter_map (λ p. excluded_dir_of p.setting) settings

-- patterns; where there is none, all files
abbrev pub files_or_all : List (List ℕ) → List (List ℕ)
files_or_all [] = codes "*.*" ∷ []
files_or_all (pattern ∷ patterns) = pattern ∷ patterns
