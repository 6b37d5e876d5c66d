-- What readers of job files keep of the lists that they have read.
use Rattle.std.specs.Prelude.{◌≡◌, ◌⊎◌, ℕ, Bool, true, false, not, ◌&&◌, ◌||◌, ◌==◌, List, [], ◌∷◌, ◌++◌, Option, None, Some, Result, Ok, Err}
use Rattle.std.specs.List.{list_any}
use Rattle.std.specs.Option.{option_or}
use Rattle.rc_wild.specs.PathPattern.{is_separator}
use Rattle.rc_words.specs.declared.setting.Placed.{Placed}
use Rattle.rc_words.specs.declared.setting.Setting.{Setting}
use Rattle.rc_jobfiles.specs.declared.job_err.JobErr.{JobErr}
use Rattle.rc_jobfiles.specs.declared.job_err.JobErr.TheVariants as refused
use Rattle.rc_jobfiles.specs.declared.listed.ListValues.{ListValues}
use Rattle.rc_jobfiles.specs.declared.reading.Progress.{Progress}
use Rattle.rc_jobfiles.specs.Merge.{excluded_dirs_in, excluded_files_in, files_in, given, has}
use Rattle.rc_jobfiles.specs.Parts.{Parts, NoPart, OwnPart, FilePart, all, own}
use Rattle.rc_jobfiles.specs.Picking.{Picks, copy_given, directory_given, workers_given}
use Rattle.rc_jobfiles.specs.Resolving.{Gathered, Gathering}

-- whether a dot stands behind the last separator of what ends with a character, by what stands before it
abbrev pub is_dotted : Bool → ℕ → Bool
is_dotted before c = not (is_separator c) && (before || c == 46)

-- Lists in the order in which each wins over those before it

-- the files that a list names
abbrev pub ranked_files : Parts → List (List Placed)
ranked_files NoPart = []
ranked_files (OwnPart p ps) = ranked_files ps
ranked_files (FilePart p inner ps) = (ranked_files inner ++ own inner ∷ []) ++ ranked_files ps

-- the list behind its files
abbrev pub ranked : Parts → List (List Placed)
ranked parts = ranked_files parts ++ own parts ∷ []

-- the value of the last list that gives one
abbrev pub last_given : {A : Type 0} → (List Placed → Option A) → List (List Placed) → Option A
last_given value [] = None
last_given value (list ∷ lists) = option_or (last_given value lists) (value list)

-- whether a switch stands in one of these lists
unfoldable pub any_has : List (List Placed) → ℕ → Bool
any_has lists n = list_any (λ list. has n list) lists

-- the setting of a switch in the last list that has one
unfoldable pub last_setting : List (List Placed) → ℕ → Option Setting
last_setting lists n = last_given (given n) lists

abbrev pub picks_in : List (List Placed) → ListValues → Picks
picks_in lists values = record {
  on = any_has lists;
  one = last_setting lists;
  copy = last_given copy_given lists;
  directory = last_given directory_given lists;
  workers = last_given workers_given lists;
  files = values.files.items;
  excluded_files = values.excluded_files.items;
  excluded_dirs = values.excluded_dirs.items;
}

-- What has been read

-- the values of the lists among settings were joined to others
pub record Joins (old new : ListValues) (settings : List Placed) : Type 0 where
  pub files : new.files.items ≡ old.files.items ++ files_in settings
  pub excluded_files : new.excluded_files.items ≡ old.excluded_files.items ++ excluded_files_in settings
  pub excluded_dirs : new.excluded_dirs.items ≡ old.excluded_dirs.items ++ excluded_dirs_in settings

-- reading went on by these lists, whose settings are those of some parts
pub record Passes (old new : Progress) (more : List (List Placed)) (g : Gathered) : Type 0 where
  pub chain : new.chain.items ≡ old.chain.items
  pub begun : new.begun ≡ g.begun
  pub values : Joins old.values new.values (all g.parts)
  pub lists : new.lists.items ≡ old.lists.items ++ more

-- it answers what is due, unless memory runs out or the store fails
abbrev pub Reads : {T : Type 0} → Result T JobErr → Gathering → (Gathered → Type 0) → Type 0
Reads (Ok done) (Ok g) Passed = Passed g
Reads (Ok done) (Err e) Passed = ⊥
Reads (Err e) due Passed = (due ≡ Err e) ⊎ (e ≡ refused.NoMemory) ⊎ (e ≡ refused.StoreFault)

-- whether the store failed
abbrev pub job_failed : {T : Type 0} → Result T JobErr → Bool
job_failed (Err refused.StoreFault) = true
job_failed other = false
