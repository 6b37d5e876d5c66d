-- A job that is saved is what the word that names its file asks for.
use Rattle.std.proofs.Common.{◌≡◌, ℕ, ◌+◌, Bool, true, false, ◌==◌, List, [], ◌∷◌, ◌++◌, map, Option, Some, None, Result, Ok, Err, chars, codes, refl, sym, ap, ◌∙◌, append-nil, if◌then◌else◌}
use Rattle.std.specs.FinMap.{get}
use Rattle.std.specs.Option.{option_or}
use Rattle.std.specs.Prelude.{encode_utf8_all, is_some}
use Rattle.std.specs.Str.{IsUtf8, is_utf8}
use Rattle.std.proofs.lemmas.Bool.{false≢true, true≢false}
use Rattle.std.proofs.lemmas.Str.{chars_from_encodes, is_utf8-from_IsUtf8}
use Rattle.rc_tree.specs.Name.{folded}
use Rattle.rc_job.specs.Allowed.{is_root}
use Rattle.rc_job.specs.Settings.{canonical, settings, text_of, written}
use Rattle.rc_job.specs.Values.{root_lines}
use Rattle.rc_job.specs.declared.job.Job.{Job}
use Rattle.rc_words.specs.Meaning.{given_again, meaning, needed, once, placed_from, single_by, some_setting, spelled, switch_meaning, words_of}
use Rattle.rc_words.specs.Spelling.{Spelled}
use Rattle.rc_words.specs.declared.setting.Placed.{Placed}
use Rattle.rc_words.specs.declared.setting.Setting.{Setting}
use Rattle.rc_words.specs.declared.setting.Setting.TheVariants as setting
use Rattle.rc_words.specs.declared.setting.Word.{Word}
use Rattle.rc_words.specs.declared.setting.WordsErr.{WordsErr}
use Rattle.rc_words.specs.declared.table.Value.TheVariants as value
use Rattle.rc_jobtext.specs.Decoding.{job_words, narrow_text, text_of as text_in, words_by}
use Rattle.rc_jobtext.specs.Lexing.{Reading, words_in, words_read}
use Rattle.rc_jobtext.specs.declared.reading.JobTextErr.{JobTextErr}
use Rattle.rc_jobfiles.specs.declared.job_err.JobErr.{JobErr}
use Rattle.rc_jobfiles.specs.declared.resolving.Resolved.{Resolved}
use Rattle.rc_jobfiles.specs.Ask.{as_word}
use Rattle.rc_jobfiles.specs.Merge.{excluded_dirs_in, excluded_files_in, files_in, given, has, number_of}
use Rattle.rc_jobfiles.specs.Parts.{Parts, NoPart, OwnPart, FilePart, all, of_files, own, picked}
use Rattle.rc_jobfiles.specs.Picking.{copy_given, directory_given, job_by, job_of, picks_of, workers_given}
use Rattle.rc_jobfiles.specs.Refusal.{IsWhole, refusal_of}
use Rattle.rc_jobfiles.specs.Resolving.{Gathered, Gathering, Store, accepted, accepted_by, and_then, at_word, file_gathered, found_settings, full_name, gathered, gathered_part, job_gathered, named, opened, resolved, resolved_by, settings_by, settings_in, with_own, within}
use Rattle.rc_jobfiles.specs.Saved.{IsAllowed}
use Rattle.rc_jobfiles.proofs.Blocks.{Told, told}
use Rattle.rc_jobfiles.proofs.Lexed.{slash}
use Rattle.rc_jobfiles.proofs.Names.{behind, job_name}
use Rattle.rc_jobfiles.proofs.Picks.{not_it, one_job}
use Rattle.rc_jobfiles.proofs.SavedBlocks.{all_blocks, rows}
use Rattle.rc_jobfiles.proofs.SavedJob.{no_file, own_job, own_picks}
use Rattle.rc_jobfiles.proofs.Stretches.{flat}
use Rattle.rc_jobfiles.proofs.Valued.{needed_some, root_back, root_some}
use Rattle.rc_jobfiles.proofs.Whole.{is_given, is_whole}
use Rattle.rc_jobfiles.proofs.Worded.{Reads}

-- The bytes of a text that begins with `/`

unmarked : (bytes more : List ℕ) → bytes ≡ 47 ∷ more → text_in bytes ≡ narrow_text bytes
unmarked bytes more e = ap text_in e ∙ ap narrow_text (sym e)

slash_bytes : (rest : List ℕ) → encode_utf8_all (47 ∷ rest) ≡ 47 ∷ encode_utf8_all rest
unfolding lib.Utf8.encode
slash_bytes rest = refl

job_text : (text rest : List ℕ) → text ≡ 47 ∷ rest → IsUtf8 (encode_utf8_all text) → text_in (encode_utf8_all text) ≡ Some text
job_text text rest e utf8 =
    let bytes = encode_utf8_all text in
    unmarked bytes (encode_utf8_all rest) (ap encode_utf8_all e ∙ slash_bytes rest)
    ∙ ap (λ (is : Bool). if is then Some (chars bytes) else None) (is_utf8-from_IsUtf8 bytes utf8)
    ∙ ap (λ (cs : List ℕ). Some cs) (sym (chars_from_encodes text bytes utf8 refl))

begins : (source : Option (List ℕ)) (more : List ℕ) → is_some source ≡ true → (rest : List ℕ) × (text_of (root_lines (codes "/SD:") source) ++ more ≡ 47 ∷ rest)
begins None more h = absurd (false≢true h)
begins (Some root) more h = (_, refl)

canonical_begins : (job : Job) → is_some job.source ≡ true → (rest : List ℕ) × (canonical job ≡ 47 ∷ rest)
unfolding canonical
canonical_begins job h = begins job.source _ h

-- What the file's words give

pub record Kept (job : Job) : Type 0 where
  pub words : List Word
  pub lexed : job_words (encode_utf8_all (canonical job)) ≡ Ok words
  pub placed : List Placed
  pub read : words_of true words ≡ Ok placed
  pub settings_are : map (λ p. p.setting) placed ≡ flat (rows job)

text_words : (job : Job) (h : IsAllowed job) → Told (canonical job) 0 (flat (rows job))
unfolding canonical
text_words job h = told 72 (settings job) (rows job) (all_blocks job h)

kept : (job : Job) → IsAllowed job → is_some job.source ≡ true → IsUtf8 (encode_utf8_all (canonical job)) → Kept job
unfolding job_words words_in words_of
kept job h source utf8 =
    let t = text_words job h in
    let first = canonical_begins job source in
    let r : Reads t.words [] t.words 1 (flat (rows job)) = t.reads t.words [] 1 (λ m low. refl) in
    record {
      words = t.words;
      lexed =
          ap words_by (job_text (canonical job) first.0 first.1 utf8)
          ∙ ap (λ (reading : Reading). words_read reading) (t.gives 1);
      placed = r.placed_are;
      read = r.read;
      settings_are = r.settings_are;
    }

-- Settings that name no file

abbrev owns : List Placed → Parts
owns [] = NoPart
owns (p ∷ ps) = OwnPart p (owns ps)

all_owns : (ps : List Placed) → all (owns ps) ≡ ps
all_owns [] = refl
all_owns (p ∷ ps) = ap (λ (xs : List Placed). p ∷ xs) (all_owns ps)

own_owns : (ps : List Placed) → own (owns ps) ≡ ps
own_owns [] = refl
own_owns (p ∷ ps) = ap (λ (xs : List Placed). p ∷ xs) (own_owns ps)

not_named : (s : Setting) → (number_of s == 68) ≡ false → named s ≡ None
not_named (setting.JobFile name) h = absurd (true≢false h)
not_named s h = refl

first_none : (is : Bool) (s : Setting) (o : Option Setting) → (if is then Some s else o) ≡ None → (is ≡ false) × (o ≡ None)
first_none true s o e = (cc, cc)
first_none false s o e = (refl, e)

list_gathered : (file : ℕ → List ℕ → ℕ → Gathering) (ps : List Placed) (n : ℕ) → given 68 ps ≡ None → gathered file ps n ≡ Ok (record { parts = owns ps; begun = n })
list_gathered file [] n none = refl
list_gathered file (p ∷ ps) n none =
    let parts = first_none (number_of p.setting == 68) p.setting (given 68 ps) none in
    ap (λ (o : Option (List ℕ)). gathered_part file p o (gathered file ps) n) (not_named p.setting parts.0)
    ∙ ap (λ (g : Gathering). with_own p g) (list_gathered file ps n parts.1)

-- The job of a list that names one file with these settings, and gives nothing else

abbrev naming : List ℕ → Placed
naming name = record { place = 1; setting = setting.JobFile name }

abbrev whole_parts : List ℕ → List Placed → Parts
whole_parts name ps = FilePart (naming name) (owns ps) NoPart

or_none : {A : Type 0} (x : Option A) → option_or x None ≡ x
or_none None = refl
or_none (Some a) = refl

no_files_of : {A : Type 0} (value : List Placed → Option A) (ps : List Placed) → of_files value (owns ps) ≡ None
no_files_of value [] = refl
no_files_of value (p ∷ ps) = no_files_of value ps

picked_is : {A : Type 0} (value : List Placed → Option A) (name : List ℕ) (ps : List Placed) → value (naming name ∷ []) ≡ None → picked value (whole_parts name ps) ≡ value ps
picked_is value name ps none =
    ap (λ o. option_or o (option_or (value (own (owns ps))) (of_files value (owns ps)))) none
    ∙ ap (λ o. option_or (value (own (owns ps))) o) (no_files_of value ps)
    ∙ or_none (value (own (owns ps)))
    ∙ ap value (own_owns ps)

given_other : (n : ℕ) (name : List ℕ) → (n == 68) ≡ false → given n (naming name ∷ []) ≡ None
given_other n name other = ap (λ (is : Bool). if is then Some (setting.JobFile name) else None) (not_it (68 == n) n other refl)

all_whole : (name : List ℕ) (ps : List Placed) → all (whole_parts name ps) ≡ ps
all_whole name ps = append-nil (all (owns ps)) ∙ all_owns ps

whole_job : (job : Job) (h : IsAllowed job) (name : List ℕ) (ps : List Placed) → map (λ p. p.setting) ps ≡ flat (rows job) → job_of (whole_parts name ps) ≡ job
whole_job job h name ps e =
    one_job (picks_of (whole_parts name ps)) (own_picks ps) (record {
      on = λ n other. ap (λ (xs : List Placed). has n xs) (all_whole name ps);
      one = λ n other. picked_is (given n) name ps (given_other n name other);
      copy = picked_is copy_given name ps refl;
      directory = picked_is directory_given name ps refl;
      workers = picked_is workers_given name ps refl;
      files = ap files_in (all_whole name ps);
      excluded_files = ap excluded_files_in (all_whole name ps);
      excluded_dirs = ap excluded_dirs_in (all_whole name ps);
    })
    ∙ own_job job h ps e

-- The word

word_is : (name : List ℕ) → is_root name ≡ true → meaning false (slash (codes "JOB:" ++ name) ∷ []) (slash (codes "JOB:" ++ name)) [] [] ≡ Ok (Some (setting.JobFile name))
unfolding spelled
word_is name h =
    let named_is : needed 68 value.JobFile name ≡ Ok (setting.JobFile name) = needed_some 68 value.JobFile name (root_some name h) ∙ rw (root_back name h) refl in
    ap (λ r. once false (some_setting r)) named_is

line_is : (name : List ℕ) → is_root name ≡ true → words_of false (map as_word ((codes "/JOB:" ++ name) ∷ [])) ≡ Ok (naming name ∷ [])
unfolding words_of
line_is name h = ap (λ m. placed_from 1 (m ∷ [])) (word_is name h)

-- The file

file_is : (job : Job) (k : Kept job) (name : List ℕ) (store : Store) → get store (folded (full_name name)) ≡ Some (encode_utf8_all (canonical job)) → opened false store (at_word [] [] 1) (full_name name) 0 ≡ Ok k.placed
file_is job k name store e =
    ap (λ (o : Option (List ℕ)). found_settings (full_name name) o) e
    ∙ ap (λ (r : Result (List Word) JobTextErr). settings_in (full_name name) r) k.lexed
    ∙ ap (λ (r : Result (List Placed) WordsErr). settings_by (full_name name) r) k.read

list_is : (name : List ℕ) (store : Store) (ps : List Placed) → given 68 ps ≡ None → opened false store (at_word [] [] 1) (full_name name) 0 ≡ Ok ps → gathered (file_gathered 8 store [] []) (naming name ∷ []) 0 ≡ Ok (record { parts = whole_parts name ps; begun = 1 })
unfolding file_gathered
list_is name store ps none open_is =
    let inner = file_gathered 7 store (full_name name ∷ []) (full_name name) in
    ap (λ (r : Result (List Placed) JobErr). and_then (naming name) (within (λ settings. gathered inner settings 1) r) (gathered (file_gathered 8 store [] []) [])) open_is
    ∙ ap (λ (g : Gathering). and_then (naming name) g (gathered (file_gathered 8 store [] []) [])) (list_gathered inner ps 1 none)

pub saved_is_read : (job : Job) (name : List ℕ) (store : Store) → IsAllowed job → refusal_of false job ≡ None → is_root name ≡ true → IsUtf8 (encode_utf8_all (canonical job)) → get store (folded (full_name name)) ≡ Some (encode_utf8_all (canonical job)) → resolved ((codes "/JOB:" ++ name) ∷ []) store ≡ Ok (record { job = job; save = None; quit = false; dropping = false })
unfolding resolved
saved_is_read job name store h refusal fits utf8 stored =
    let is = is_whole false job refusal in
    let k = kept job h (is_given job.source job.no_source is.source) utf8 in
    let none = no_file job h k.placed k.settings_are in
    ap (λ (r : Result (List Placed) WordsErr). resolved_by store (settings_by [] r)) (line_is name fits)
    ∙ ap (λ (g : Gathering). accepted (naming name ∷ []) (job_gathered g)) (list_is name store k.placed none (file_is job k name store stored))
    ∙ ap (λ (made : Job). accepted (naming name ∷ []) (Ok made)) (whole_job job h name k.placed k.settings_are)
    ∙ ap (λ (kind : Option ℕ). accepted_by kind job None false false) refusal
