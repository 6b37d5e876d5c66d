-- What each word of a list means, by the words before it, and what the whole list gives.
use Rattle.std.specs.Prelude.{ℕ, ◌+◌, Bool, true, false, not, ◌&&◌, ◌||◌, ◌==◌, List, [], ◌∷◌, ◌++◌, Option, None, Some, Result, Ok, Err, is_none, drop, if◌then◌else◌}
use Rattle.std.specs.List.{list_any}
use Rattle.rc_tree.specs.Attr.{compared}
use Rattle.rc_job.specs.declared.lists.Exclude.{Exclude}
use Rattle.rc_job.specs.declared.lists.Exclude.TheVariants as exclude
use Rattle.rc_wild.specs.Pattern.{pattern_fault}
use Rattle.rc_wild.specs.PathPattern.{is_separator, path_pattern_fault}
use Rattle.rc_words.specs.declared.setting.Placed.{Placed}
use Rattle.rc_words.specs.declared.setting.Setting.{Setting}
use Rattle.rc_words.specs.declared.setting.Setting.TheVariants as setting
use Rattle.rc_words.specs.declared.setting.Word.{Word}
use Rattle.rc_words.specs.declared.setting.WordsErr.{WordsErr}
use Rattle.rc_words.specs.declared.setting.WordsErr.TheVariants as words
use Rattle.rc_words.specs.declared.table.Value.{Value}
use Rattle.rc_words.specs.declared.table.Value.TheVariants as value
use Rattle.rc_words.specs.declared.values.Fault.{Fault}
use Rattle.rc_words.specs.declared.values.Fault.TheVariants.{Kind}
use Rattle.rc_words.specs.declared.values.Fault.TheVariants as fault
use Rattle.rc_words.specs.Spelling.{Reading, Plain, Bare, Behind, Spelled, spelled_among, is_switch}
use Rattle.rc_words.specs.Table.{Named, shared, alone}
use Rattle.rc_words.specs.Values.{copy_in, directory_in, attr_in, scan_in, ranged_in, age_in, is_root}

-- Values

-- the value, made a setting, or the kind of its refusal
abbrev pub allowed : {A : Type 0} → (A → Setting) → ℕ → Option A → Result Setting Fault
allowed make kind (Some a) = Ok (make a)
allowed make kind None = Err (Kind kind)

abbrev pub numbered : ℕ → Result ℕ ℕ → Result Setting Fault
numbered number (Ok n) = Ok (setting.Number number n)
numbered number (Err kind) = Err (Kind kind)

abbrev pub made : {A B : Type 0} → (A → B) → Result A Fault → Result B Fault
made make (Ok a) = Ok (make a)
made make (Err fault) = Err fault

abbrev pub root_value : List ℕ → Result (List ℕ) Fault
root_value cs = if is_root cs then Ok cs else Err (Kind 6)

abbrev pub pattern_value : List ℕ → Result (List ℕ) Fault
pattern_value cs = if is_none (pattern_fault cs) then Ok cs else Err (Kind 6)

abbrev pub path_pattern_value : List ℕ → Result (List ℕ) Fault
path_pattern_value cs = if is_none (path_pattern_fault cs) then Ok cs else Err (Kind 6)

abbrev pub file_setting : List ℕ → Result Setting Fault
file_setting cs = made (λ p. setting.File p) (pattern_value cs)

-- a value with `\` or `/` is a path pattern, another a pattern
abbrev pub exclude_value : List ℕ → Result Exclude Fault
exclude_value cs =
    if list_any is_separator cs then made (λ p. exclude.Path p) (path_pattern_value cs)
    else made (λ p. exclude.Name p) (pattern_value cs)

-- what stands behind the colon of a switch of a number
abbrev pub behind_colon : ℕ → Value → List ℕ → Result Setting Fault
behind_colon number value.Source cs = made (λ root. setting.Source root) (root_value cs)
behind_colon number value.Target cs = made (λ root. setting.Target root) (root_value cs)
behind_colon number (value.Number least most) cs = numbered number (ranged_in least most cs)
behind_colon number value.Age cs = numbered number (age_in cs)
behind_colon number value.Copy cs = allowed (λ flags. setting.Copy flags) 5 (copy_in cs)
behind_colon number value.Directory cs = allowed (λ flags. setting.Directory flags) 5 (directory_in cs)
behind_colon number value.Changed cs = allowed (λ attr. setting.Attributes number (compared attr)) 5 (attr_in cs)
behind_colon number value.Asked cs = allowed (λ attr. setting.Attributes number attr) 5 (attr_in cs)
behind_colon number value.Scan cs = allowed (λ scan. setting.Scanning scan) 5 (scan_in cs)
behind_colon number value.JobFile cs = made (λ name. setting.JobFile name) (root_value cs)
behind_colon number value.Save cs = made (λ name. setting.Save name) (root_value cs)
behind_colon number value.Nothing cs = Err (Kind 1)
behind_colon number value.Files cs = Err (Kind 1)
behind_colon number value.ExcludeFiles cs = Err (Kind 1)
behind_colon number value.ExcludeDirs cs = Err (Kind 1)

-- a value that is needed is refused where it is empty
abbrev pub needed : ℕ → Value → List ℕ → Result Setting Fault
needed number value [] = Err (Kind 2)
needed number value (c ∷ cs) = behind_colon number value (c ∷ cs)

-- Words, by those before them, the last one first

-- the switches that may stand in a list of words
abbrev pub known : Bool → List Named
known in_file = if in_file then shared else shared ++ alone

-- the switch that a word spells
unfoldable pub spelled : Bool → Word → Option Spelled
spelled in_file word = spelled_among 0 (known in_file) (drop 1 word.text)

abbrev pub is_list : Value → Bool
is_list value.Files = true
is_list value.ExcludeFiles = true
is_list value.ExcludeDirs = true
is_list other = false

abbrev pub list_of : Option Spelled → Option Value
list_of None = None
list_of (Some s) = if is_list s.value then Some s.value else None

-- the list that a word belongs to: that of the last switch before it, where it begins one
abbrev pub list_before : Bool → List Word → Option Value
list_before in_file [] = None
list_before in_file (word ∷ before) =
    if is_switch word then list_of (spelled in_file word) else list_before in_file before

-- no switch, and of no list
abbrev pub is_loose : Bool → Word → List Word → Bool
is_loose in_file word before = not (is_switch word) && is_none (list_before in_file before)

abbrev pub loose_before : Bool → List Word → ℕ
loose_before in_file [] = 0
loose_before in_file (word ∷ before) =
    loose_before in_file before + (if is_loose in_file word before then 1 else 0)

abbrev pub has_number : ℕ → Option Spelled → Bool
has_number n None = false
has_number n (Some s) = s.number == n

-- whether a switch stands in a list of words
abbrev pub stands : Bool → ℕ → List Word → Bool
stands in_file n words = list_any (λ word. is_switch word && has_number n (spelled in_file word)) words

-- the root that the loose word of a number from 0 stands for, where /NOSD and /NODD leave its place
abbrev pub root_at : Bool → Bool → ℕ → Option Value
root_at no_source no_target n =
    if not no_source && n == 0 then Some value.Source
    else if not no_target && n == (if no_source then 0 else 1) then Some value.Target
    else None

-- on a command line the first loose words are the roots
abbrev pub root_of : Bool → List Word → List Word → Option Value
root_of in_file all before =
    if in_file then None
    else root_at (stands in_file 2 all) (stands in_file 3 all) (loose_before in_file before)

-- the number of the single setting that a switch gives: each with a value behind its colon, but /JOB:
abbrev pub single_reading : ℕ → Value → Reading → Option ℕ
single_reading number value.JobFile reading = None
single_reading number other (Behind cs) = Some number
single_reading number other reading = None

abbrev pub single_by : Option Spelled → Option ℕ
single_by None = None
single_by (Some s) = single_reading s.number s.value s.reading

abbrev pub root_number : Option Value → Option ℕ
root_number None = None
root_number (Some value.Source) = Some 0
root_number (Some value.Target) = Some 1
root_number (Some other) = None

-- a word in the place of a root gives that root, as its switch does
abbrev pub single_of : Bool → List Word → Word → List Word → Option ℕ
single_of in_file all word before =
    if is_switch word then single_by (spelled in_file word)
    else if is_loose in_file word before then root_number (root_of in_file all before)
    else None

abbrev pub is_number : ℕ → Option ℕ → Bool
is_number n None = false
is_number n (Some m) = m == n

-- whether a single setting was given before
abbrev pub given : Bool → List Word → ℕ → List Word → Bool
given in_file all n [] = false
given in_file all n (word ∷ before) = is_number n (single_of in_file all word before) || given in_file all n before

-- Meanings: a setting, nothing for the switch of a list, or the kind of a refusal

abbrev pub some_setting : Result Setting Fault → Result (Option Setting) Fault
some_setting (Ok made) = Ok (Some made)
some_setting (Err fault) = Err fault

-- the next word belongs to the list
abbrev pub goes_on : List Word → Bool
goes_on [] = false
goes_on (word ∷ after) = not (is_switch word)

-- a list on a command line has a word
abbrev pub plain_meaning : Bool → List Word → ℕ → Value → Result (Option Setting) Fault
plain_meaning in_file after number value =
    if is_list value then (if in_file || goes_on after then Ok None else Err (Kind 2))
    else Ok (Some (setting.Switch number))

abbrev pub reading_meaning : Bool → List Word → ℕ → Value → Reading → Result (Option Setting) Fault
reading_meaning in_file after number value Plain = plain_meaning in_file after number value
reading_meaning in_file after number value Bare = Err (Kind 2)
reading_meaning in_file after number value (Behind cs) = some_setting (needed number value cs)

abbrev pub switch_meaning : Bool → List Word → Option Spelled → Result (Option Setting) Fault
switch_meaning in_file after None = Err (Kind 1)
switch_meaning in_file after (Some s) = reading_meaning in_file after s.number s.value s.reading

abbrev pub listed_meaning : Value → List ℕ → Result Setting Fault
listed_meaning value.ExcludeFiles cs = made (λ e. setting.ExcludeFile e) (exclude_value cs)
listed_meaning value.ExcludeDirs cs = made (λ e. setting.ExcludeDir e) (exclude_value cs)
listed_meaning other cs = file_setting cs

abbrev pub loose_meaning : Option Value → List ℕ → Result Setting Fault
loose_meaning (Some value.Source) cs = made (λ root. setting.Source root) (root_value cs)
loose_meaning (Some value.Target) cs = made (λ root. setting.Target root) (root_value cs)
loose_meaning other cs = file_setting cs

abbrev pub other_meaning : Option Value → Option Value → List ℕ → Result Setting Fault
other_meaning (Some list) root cs = listed_meaning list cs
other_meaning None root cs = loose_meaning root cs

-- a single setting may stand once
abbrev pub once : Bool → Result (Option Setting) Fault → Result (Option Setting) Fault
once again (Ok made) = if again then Err (Kind 8) else Ok made
once again (Err fault) = Err fault

abbrev pub given_again : Bool → List Word → Option ℕ → List Word → Bool
given_again in_file all None before = false
given_again in_file all (Some n) before = given in_file all n before

abbrev pub raw_meaning : Bool → List Word → Word → List Word → List Word → Result (Option Setting) Fault
raw_meaning in_file all word before after =
    if is_switch word then switch_meaning in_file after (spelled in_file word)
    else some_setting (other_meaning (list_before in_file before) (root_of in_file all before) word.text)

-- what a word means among all words, behind some and before others
abbrev pub meaning : Bool → List Word → Word → List Word → List Word → Result (Option Setting) Fault
meaning in_file all word before after =
    once (given_again in_file all (single_of in_file all word before) before) (raw_meaning in_file all word before after)

-- Lists of words

abbrev pub meanings : Bool → List Word → List Word → List Word → List (Result (Option Setting) Fault)
meanings in_file all before [] = []
meanings in_file all before (word ∷ after) =
    meaning in_file all word before after ∷ meanings in_file all (word ∷ before) after

abbrev pub placed : ℕ → Option Setting → Result (List Placed) WordsErr → Result (List Placed) WordsErr
placed place None later = later
placed place (Some made) (Ok later) = Ok (record { place = place; setting = made } ∷ later)
placed place (Some made) (Err e) = Err e

abbrev pub usage_at : ℕ → Fault → WordsErr
usage_at place (Kind kind) = words.Usage place kind
usage_at place fault.NoMemory = words.NoMemory

-- the settings with their places from one on, or the first refusal
abbrev pub placed_from : ℕ → List (Result (Option Setting) Fault) → Result (List Placed) WordsErr
placed_from place [] = Ok []
placed_from place (Ok made ∷ later) = placed place made (placed_from (place + 1) later)
placed_from place (Err fault ∷ later) = Err (usage_at place fault)

-- what a list of words gives
unfoldable pub words_of : Bool → List Word → Result (List Placed) WordsErr
words_of in_file all = placed_from 1 (meanings in_file all [] all)
