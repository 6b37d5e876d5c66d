-- What the words of a command line ask for, with the job files that they name, and why others are refused.
use Rattle.std.specs.Prelude.{ℕ, zero, suc, ◌+◌, Bool, true, false, not, ◌&&◌, ◌||◌, ◌==◌, nat_le, List, [], ◌∷◌, ◌++◌, Option, None, Some, Result, Ok, Err, is_none, map, codes, if◌then◌else◌}
use Rattle.std.specs.Ordering.{is_eq}
use Rattle.std.specs.FinMap.{FinMap, get}
use Rattle.std.specs.List.{list_all, list_any}
use Rattle.rc_tree.specs.Name.{folded}
use Rattle.rc_tree.specs.Path.{name_cmp}
use Rattle.rc_wild.specs.PathPattern.{is_separator}
use Rattle.rc_job.specs.declared.job.Job.{Job}
use Rattle.rc_words.specs.Meaning.{words_of}
use Rattle.rc_words.specs.declared.setting.Placed.{Placed}
use Rattle.rc_words.specs.declared.setting.Setting.{Setting}
use Rattle.rc_words.specs.declared.setting.Setting.TheVariants as setting
use Rattle.rc_words.specs.declared.setting.Word.{Word}
use Rattle.rc_words.specs.declared.setting.WordsErr.{WordsErr}
use Rattle.rc_words.specs.declared.setting.WordsErr.TheVariants as words
use Rattle.rc_jobtext.specs.Decoding.{job_words}
use Rattle.rc_jobtext.specs.declared.reading.JobTextErr.{JobTextErr}
use Rattle.rc_jobtext.specs.declared.reading.JobTextErr.TheVariants as text
use Rattle.rc_jobfiles.specs.declared.job_err.JobErr.{JobErr}
use Rattle.rc_jobfiles.specs.declared.job_err.JobErr.TheVariants as refused
use Rattle.rc_jobfiles.specs.declared.resolving.Resolved.{Resolved}
use Rattle.rc_jobfiles.specs.Ask.{as_word}
use Rattle.rc_jobfiles.specs.Merge.{given, has}
use Rattle.rc_jobfiles.specs.Parts.{Parts, NoPart, OwnPart, FilePart}
use Rattle.rc_jobfiles.specs.Picking.{job_of}
use Rattle.rc_jobfiles.specs.Refusal.{refusal_of}

-- Names of job files

-- a dot stands behind the last separator
abbrev pub has_dot : List ℕ → Bool
has_dot [] = false
has_dot (c ∷ cs) = (c == 46 && not (list_any is_separator cs)) || has_dot cs

abbrev pub full_name : List ℕ → List ℕ
full_name name = if has_dot name then name else name ++ codes ".RCJ"

-- one of these names, without regard to case
abbrev pub is_among : List ℕ → List (List ℕ) → Bool
is_among name names = list_any (λ n. is_eq (name_cmp (folded n) (folded name))) names

-- One job file

-- job files by their folded names
abbrev pub Store : Type 0
Store = FinMap name_cmp (List ℕ)

-- the settings of a file's words, or why the file of this name is refused
abbrev pub settings_by : List ℕ → Result (List Placed) WordsErr → Result (List Placed) JobErr
settings_by file (Ok settings) = Ok settings
settings_by file (Err (words.Usage place kind)) = Err (refused.Usage file place kind)
settings_by file (Err words.NoMemory) = Err refused.NoMemory

abbrev pub settings_in : List ℕ → Result (List Word) JobTextErr → Result (List Placed) JobErr
settings_in name (Ok ws) = settings_by name (words_of true ws)
settings_in name (Err (text.BadText place)) = Err (refused.Usage name place 13)
settings_in name (Err text.NoMemory) = Err refused.NoMemory

abbrev pub found_settings : List ℕ → Option (List ℕ) → Result (List Placed) JobErr
found_settings name None = Err (refused.Missing name)
found_settings name (Some bytes) = settings_in name (job_words bytes)

-- where a `/JOB:` stands: the files that are being read, the outermost first, the file of its word (none on the command
-- line), and the word's number
pub record Site : Type 0 where
  pub chain : List (List ℕ)
  pub file : List ℕ
  pub place : ℕ

-- why a file is not read, behind so many others: it is being read, it is too deep, or it is the 65th
abbrev pub barred : Bool → Site → List ℕ → ℕ → Option JobErr
barred deep site name begun =
    if is_among name site.chain then Some (refused.Round name)
    else if deep then Some (refused.Deep name)
    else if nat_le 64 begun then Some (refused.Usage site.file site.place 14)
    else None

abbrev pub unless : Option JobErr → Result (List Placed) JobErr → Result (List Placed) JobErr
unless None read = read
unless (Some e) read = Err e

abbrev pub opened : Bool → Store → Site → List ℕ → ℕ → Result (List Placed) JobErr
opened deep store site name begun =
    unless (barred deep site name begun) (found_settings name (get store (folded name)))

-- A list of words with the files that it names, each with those that it names itself, in the order of their words

-- the settings, and how many files were read by then
pub record Gathered : Type 0 where
  pub parts : Parts
  pub begun : ℕ

abbrev pub Gathering : Type 0
Gathering = Result Gathered JobErr

abbrev pub with_own : Placed → Gathering → Gathering
with_own p (Ok g) = Ok (record { parts = OwnPart p g.parts; begun = g.begun })
with_own p (Err e) = Err e

abbrev pub with_file : Placed → Parts → Gathering → Gathering
with_file p inner (Ok g) = Ok (record { parts = FilePart p inner g.parts; begun = g.begun })
with_file p inner (Err e) = Err e

abbrev pub and_then : Placed → Gathering → (ℕ → Gathering) → Gathering
and_then p (Ok g) rest = with_file p g.parts (rest g.begun)
and_then p (Err e) rest = Err e

-- the name of the file that a setting names
abbrev pub named : Setting → Option (List ℕ)
named (setting.JobFile name) = Some name
named other = None

-- no setting names a file
abbrev pub names_none : List Placed → Bool
names_none settings = list_all (λ p. is_none (named p.setting)) settings

-- one setting, which may name a file, where a file is what its place and name give, and the rest of the list follows
abbrev pub gathered_part : (ℕ → List ℕ → ℕ → Gathering) → Placed → Option (List ℕ) → (ℕ → Gathering) → ℕ → Gathering
gathered_part file p (Some name) rest begun = and_then p (file p.place (full_name name) begun) rest
gathered_part file p None rest begun = with_own p (rest begun)

abbrev pub gathered : (ℕ → List ℕ → ℕ → Gathering) → List Placed → ℕ → Gathering
gathered file [] begun = Ok (record { parts = NoPart; begun = begun })
gathered file (p ∷ ps) begun = gathered_part file p (named p.setting) (gathered file ps) begun

abbrev pub within : (List Placed → Gathering) → Result (List Placed) JobErr → Gathering
within next (Ok settings) = next settings
within next (Err e) = Err e

abbrev pub at_word : List (List ℕ) → List ℕ → ℕ → Site
at_word chain file place = record { chain = chain; file = file; place = place }

-- a file in a list of words that has room for so many files, one within another
unfoldable pub file_gathered : ℕ → Store → List (List ℕ) → List ℕ → ℕ → List ℕ → ℕ → Gathering
file_gathered zero store chain file place name begun =
    within (λ settings. Ok (record { parts = NoPart; begun = begun })) (opened true store (at_word chain file place) name begun)
file_gathered (suc room) store chain file place name begun =
    within (λ settings. gathered (file_gathered room store (chain ++ name ∷ []) name) settings (begun + 1))
    (opened false store (at_word chain file place) name begun)

-- What is asked

abbrev pub save_in : Option Setting → Option (List ℕ)
save_in (Some (setting.Save name)) = Some name
save_in other = None

abbrev pub accepted_by : Option ℕ → Job → Option (List ℕ) → Bool → Bool → Result Resolved JobErr
accepted_by (Some kind) job save quit dropping = Err (refused.Usage [] 0 kind)
accepted_by None job save quit dropping =
    Ok (record { job = job; save = save; quit = quit; dropping = dropping })

abbrev pub job_gathered : Gathering → Result Job JobErr
job_gathered (Ok g) = Ok (job_of g.parts)
job_gathered (Err e) = Err e

-- a whole job is refused behind all words; `/SAVE:`, `/QUIT` and `/DROP` are those of the command line's settings
abbrev pub accepted : List Placed → Result Job JobErr → Result Resolved JobErr
accepted settings (Ok job) =
    accepted_by (refusal_of (has 70 settings) job) job (save_in (given 69 settings)) (has 70 settings) (has 71 settings)
accepted settings (Err e) = Err e

abbrev pub resolved_by : Store → Result (List Placed) JobErr → Result Resolved JobErr
resolved_by store (Ok settings) =
    accepted settings (job_gathered (gathered (file_gathered 8 store [] []) settings 0))
resolved_by store (Err e) = Err e

-- what the words of a command line ask for over a store of job files
unfoldable pub resolved : List (List ℕ) → Store → Result Resolved JobErr
resolved texts store = resolved_by store (settings_by [] (words_of false (map as_word texts)))

-- whether words that read as settings name no job file
abbrev pub none_in : Result (List Placed) WordsErr → Bool
none_in (Ok settings) = names_none settings
none_in (Err e) = true

abbrev pub names_no_file : List (List ℕ) → Bool
names_no_file texts = none_in (words_of false (map as_word texts))
