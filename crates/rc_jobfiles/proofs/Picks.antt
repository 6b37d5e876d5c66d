-- The lists that were read, each with a rank, make the job of their parts.
use Rattle.std.proofs.Common.{◌≡◌, ◌⊎◌, inl, inr, ℕ, zero, suc, ◌+◌, Bool, true, false, ◌||◌, ◌==◌, List, [], ◌∷◌, ◌++◌, Option, None, Some, Result, Ok, Err, refl, sym, ap, subst, ◌∙◌, if◌then◌else◌}
use Rattle.std.specs.Option.{option_or, unwrap_or}
use Rattle.std.specs.Prelude.{is_some}
use Rattle.std.proofs.lemmas.Bool.{eqb-true, eq-eqb}
use Rattle.std.proofs.lemmas.List.Folds.{list_any-append}
use Rattle.rc_job.specs.Job.{dat, attributes_alone}
use Rattle.rc_job.specs.declared.job.Job.{Job}
use Rattle.rc_words.specs.declared.setting.Placed.{Placed}
use Rattle.rc_words.specs.declared.setting.Setting.{Setting}
use Rattle.rc_words.specs.declared.setting.Setting.TheVariants as setting
use Rattle.rc_jobfiles.specs.declared.job_err.JobErr.{JobErr}
use Rattle.rc_jobfiles.specs.declared.job_err.JobErr.TheVariants as refused
use Rattle.rc_jobfiles.specs.declared.listed.ListValues.{ListValues}
use Rattle.rc_jobfiles.specs.declared.reading.Progress.{Progress}
use Rattle.rc_jobfiles.specs.Merge.{attr_in, excluded_dirs_in, excluded_files_in, files_in, files_or_all, given, has, number_in, number_of, root_in, scan_in, small_in, small_or}
use Rattle.rc_jobfiles.specs.Parts.{Parts, NoPart, OwnPart, FilePart, all, of_files, own, picked}
use Rattle.rc_jobfiles.specs.Picking.{Picks, copy_given, directory_given, job_by, job_of, moving_by, picks_of, sub_by, workers_given}
use Rattle.rc_jobfiles.specs.Reading.{Joins, Passes, Reads, any_has, last_given, last_setting, picks_in, ranked, ranked_files}
use Rattle.rc_jobfiles.specs.Resolving.{Gathered, Gathering, Store, and_then, at_word, file_gathered, full_name, gathered, gathered_part, job_gathered, named, opened, with_file, with_own, within}

-- Picks that agree make one job: what they say of `/JOB:` itself does not count

pub record Agree (p q : Picks) : Type 0 where
  pub on : (n : ℕ) → (n == 68) ≡ false → p.on n ≡ q.on n
  pub one : (n : ℕ) → (n == 68) ≡ false → p.one n ≡ q.one n
  pub copy : p.copy ≡ q.copy
  pub directory : p.directory ≡ q.directory
  pub workers : p.workers ≡ q.workers
  pub files : p.files ≡ q.files
  pub excluded_files : p.excluded_files ≡ q.excluded_files
  pub excluded_dirs : p.excluded_dirs ≡ q.excluded_dirs

pub one_job : (p q : Picks) → Agree p q → job_by p ≡ job_by q
unfolding job_by
one_job p q a =
    λ i. record {
      source = root_in (a.one 0 refl i);
      target = root_in (a.one 1 refl i);
      no_source = a.on 2 refl i;
      no_target = a.on 3 refl i;
      files = files_or_all (a.files i);
      sub = sub_by (λ n. if n == 6 then a.on 6 refl i else if n == 9 then a.on 9 refl i else a.on 5 refl i);
      lev = small_in (a.one 7 refl i);
      purge = a.on 8 refl i || a.on 9 refl i;
      moving = moving_by (λ n. if n == 11 then a.on 11 refl i else a.on 10 refl i);
      create = a.on 12 refl i;
      copy = unwrap_or (a.copy i) dat;
      dcopy = unwrap_or (a.directory i) attributes_alone;
      secfix = a.on 19 refl i;
      timfix = a.on 20 refl i;
      plus = attr_in (a.one 21 refl i);
      minus = attr_in (a.one 22 refl i);
      only_a = a.on 23 refl i;
      only_m = a.on 24 refl i;
      ia = attr_in (a.one 25 refl i);
      xa = attr_in (a.one 26 refl i);
      xf = a.excluded_files i;
      xd = a.excluded_dirs i;
      xc = a.on 29 refl i;
      xn = a.on 30 refl i;
      xo = a.on 31 refl i;
      xl = a.on 32 refl i;
      xx = a.on 33 refl i;
      with_same = a.on 34 refl i;
      with_tweaked = a.on 35 refl i;
      max = number_in (a.one 36 refl i);
      min = number_in (a.one 37 refl i);
      maxage = small_in (a.one 38 refl i);
      minage = small_in (a.one 39 refl i);
      fft = a.on 40 refl i;
      dst = a.on 41 refl i;
      all_extras = a.on 42 refl i;
      strides = a.on 43 refl i || a.on 44 refl i;
      workers = unwrap_or (a.workers i) 1;
      retries = small_or 1000000 (a.one 47 refl i);
      wait = small_or 30 (a.one 48 refl i);
      list_only = a.on 49 refl i;
      verbose = a.on 50 refl i;
      nfl = a.on 51 refl i;
      ndl = a.on 52 refl i;
      nc = a.on 53 refl i;
      ns = a.on 54 refl i;
      njh = a.on 55 refl i;
      njs = a.on 56 refl i;
      plain_bytes = a.on 57 refl i;
      full_path = a.on 58 refl i;
      with_time = a.on 59 refl i;
      scan = scan_in (a.one 60 refl i);
    }

-- The value of the last list that gives one

or_more : {A : Type 0} (x y z : Option A) → option_or x (option_or y z) ≡ option_or (option_or x y) z
or_more None y z = refl
or_more (Some a) y z = refl

or_none : {A : Type 0} (x : Option A) → option_or x None ≡ x
or_none None = refl
or_none (Some a) = refl

module _ {A : Type 0} (value : List Placed → Option A) where
  last_append : (xs ys : List (List Placed)) → last_given value (xs ++ ys) ≡ option_or (last_given value ys) (last_given value xs)
  last_append [] ys = sym (or_none (last_given value ys))
  last_append (x ∷ xs) ys =
      ap (λ o. option_or o (value x)) (last_append xs ys)
      ∙ sym (or_more (last_given value ys) (last_given value xs) (value x))

  last_files : (ps : Parts) → last_given value (ranked_files ps) ≡ of_files value ps
  last_files NoPart = refl
  last_files (OwnPart p ps) = last_files ps
  last_files (FilePart p inner ps) =
      last_append (ranked_files inner ++ own inner ∷ []) (ranked_files ps)
      ∙ ap (λ o. option_or o (last_given value (ranked_files inner ++ own inner ∷ []))) (last_files ps)
      ∙ ap (λ o. option_or (of_files value ps) o) (last_append (ranked_files inner) (own inner ∷ []))
      ∙ ap (λ o. option_or (of_files value ps) (option_or (value (own inner)) o)) (last_files inner)

  pub last_ranked : (ps : Parts) → last_given value (ranked ps) ≡ picked value ps
  last_ranked ps =
      last_append (ranked_files ps) (own ps ∷ [])
      ∙ ap (λ o. option_or (value (own ps)) o) (last_files ps)

-- Whether a switch stands in any list

-- each part with a file is a `/JOB:`
abbrev pub AreNamed : Parts → Type 0
AreNamed NoPart = Unit {0}
AreNamed (OwnPart p ps) = AreNamed ps
AreNamed (FilePart p inner ps) = (number_of p.setting ≡ 68) × AreNamed inner × AreNamed ps

has_first : (n : ℕ) (p : Placed) (is : Bool) (ps : List Placed) → (number_of p.setting == n) ≡ is → has n (p ∷ ps) ≡ (is || has n ps)
has_first n p true ps e = ap (λ (b : Bool). is_some (if b then Some p.setting else given n ps)) e
has_first n p false ps e = ap (λ (b : Bool). is_some (if b then Some p.setting else given n ps)) e

pub has_append : (n : ℕ) (xs ys : List Placed) → has n (xs ++ ys) ≡ (has n xs || has n ys)
has_append n [] ys = refl
has_append n (x ∷ xs) ys = by_first (number_of x.setting == n) refl (has_append n xs ys)
  where
    by_first : (is : Bool) → (number_of x.setting == n) ≡ is → has n (xs ++ ys) ≡ (has n xs || has n ys) → has n (x ∷ (xs ++ ys)) ≡ (has n (x ∷ xs) || has n ys)
    by_first true e later = has_first n x true (xs ++ ys) e ∙ sym (ap (λ b. b || has n ys) (has_first n x true xs e))
    by_first false e later =
        has_first n x false (xs ++ ys) e ∙ later ∙ sym (ap (λ b. b || has n ys) (has_first n x false xs e))

or_true : (b : Bool) → (b || true) ≡ true
or_true true = refl
or_true false = refl

regroup : (a b c d : Bool) → (((a || (b || false)) || c) || d) ≡ ((a || b) || (c || d))
regroup true b c d = refl
regroup false true c d = refl
regroup false false c d = refl

any_append : (n : ℕ) (xs ys : List (List Placed)) → any_has (xs ++ ys) n ≡ (any_has xs n || any_has ys n)
unfolding any_has
any_append n xs ys = list_any-append (λ (list : List Placed). has n list) xs ys

any_one : (n : ℕ) (x : List Placed) → any_has (x ∷ []) n ≡ (has n x || false)
unfolding any_has
any_one n x = refl

any_none : (n : ℕ) → any_has [] n ≡ false
unfolding any_has
any_none n = refl

pub not_it : (is : Bool) (n : ℕ) → (n == 68) ≡ false → (68 == n) ≡ is → is ≡ false
not_it false n other e = refl
not_it true n other e = sym (eq-eqb n 68 (sym (eqb-true 68 n e))) ∙ other

any_all : (n : ℕ) (ps : Parts) → (n == 68) ≡ false → AreNamed ps → (any_has (ranked_files ps) n || has n (own ps)) ≡ has n (all ps)
any_all n NoPart other are = ap (λ b. b || false) (any_none n)
any_all n (OwnPart p ps) other are = by_first (number_of p.setting == n) refl (any_all n ps other are)
  where
    by_first : (is : Bool) → (number_of p.setting == n) ≡ is → (any_has (ranked_files ps) n || has n (own ps)) ≡ has n (all ps) → (any_has (ranked_files ps) n || has n (p ∷ own ps)) ≡ has n (p ∷ all ps)
    by_first true e later =
        ap (λ b. any_has (ranked_files ps) n || b) (has_first n p true (own ps) e)
        ∙ or_true (any_has (ranked_files ps) n)
        ∙ sym (has_first n p true (all ps) e)
    by_first false e later =
        ap (λ b. any_has (ranked_files ps) n || b) (has_first n p false (own ps) e)
        ∙ later
        ∙ sym (has_first n p false (all ps) e)
any_all n (FilePart p inner ps) other are =
    let no : (number_of p.setting == n) ≡ false = ap (λ m. m == n) are.0 ∙ not_it (68 == n) n other refl in
    ap (λ b. b || has n (p ∷ own ps)) (any_append n (ranked_files inner ++ own inner ∷ []) (ranked_files ps))
    ∙ ap (λ b. (b || any_has (ranked_files ps) n) || has n (p ∷ own ps)) (any_append n (ranked_files inner) (own inner ∷ []))
    ∙ ap (λ b. ((any_has (ranked_files inner) n || b) || any_has (ranked_files ps) n) || has n (p ∷ own ps)) (any_one n (own inner))
    ∙ ap (λ b. ((any_has (ranked_files inner) n || (has n (own inner) || false)) || any_has (ranked_files ps) n) || b) (has_first n p false (own ps) no)
    ∙ regroup (any_has (ranked_files inner) n) (has n (own inner)) (any_has (ranked_files ps) n) (has n (own ps))
    ∙ ap (λ b. b || (any_has (ranked_files ps) n || has n (own ps))) (any_all n inner other are.1)
    ∙ ap (λ b. has n (all inner) || b) (any_all n ps other are.2)
    ∙ sym (has_append n (all inner) (all ps))

any_ranked : (n : ℕ) (ps : Parts) → (n == 68) ≡ false → AreNamed ps → any_has (ranked ps) n ≡ has n (all ps)
any_ranked n ps other are =
    any_append n (ranked_files ps) (own ps ∷ [])
    ∙ ap (λ b. any_has (ranked_files ps) n || b) (any_one n (own ps) ∙ or_false (has n (own ps)))
    ∙ any_all n ps other are
  where
    or_false : (b : Bool) → (b || false) ≡ b
    or_false true = refl
    or_false false = refl

setting_ranked : (ps : Parts) (n : ℕ) → last_setting (ranked ps) n ≡ picked (given n) ps
unfolding last_setting
setting_ranked ps n = last_ranked (given n) ps

-- the lists that were read of some parts, with the values of their lists, make the job of the parts
pub picks_make : (ps : Parts) (values : ListValues) → AreNamed ps → values.files.items ≡ files_in (all ps) → values.excluded_files.items ≡ excluded_files_in (all ps) → values.excluded_dirs.items ≡ excluded_dirs_in (all ps) → job_by (picks_in (ranked ps) values) ≡ job_of ps
picks_make ps values are files excluded_files excluded_dirs =
    one_job (picks_in (ranked ps) values) (picks_of ps) (record {
      on = λ n other. any_ranked n ps other are;
      one = λ n other. setting_ranked ps n;
      copy = last_ranked copy_given ps;
      directory = last_ranked directory_given ps;
      workers = last_ranked workers_given ps;
      files = files;
      excluded_files = excluded_files;
      excluded_dirs = excluded_dirs;
    })

-- Parts that were gathered are of files that a `/JOB:` names

abbrev pub AllNamed : Gathering → Type 0
AllNamed (Ok g) = AreNamed g.parts
AllNamed (Err e) = Unit {0}

number_named : (s : Setting) (name : List ℕ) → named s ≡ Some name → number_of s ≡ 68
number_named (setting.JobFile word) name e = refl
number_named s name e = cc

own_named : (p : Placed) (r : Gathering) → AllNamed r → AllNamed (with_own p r)
own_named p (Ok g) are = are
own_named p (Err e) are = tt

file_named : (p : Placed) (inner : Parts) (r : Gathering) → number_of p.setting ≡ 68 → AreNamed inner → AllNamed r → AllNamed (with_file p inner r)
file_named p inner (Ok g) is own are = (is, own, are)
file_named p inner (Err e) is own are = tt

then_named : (p : Placed) (x : Gathering) (rest : ℕ → Gathering) → number_of p.setting ≡ 68 → AllNamed x → ((n : ℕ) → AllNamed (rest n)) → AllNamed (and_then p x rest)
then_named p (Ok g) rest is own are = file_named p g.parts (rest g.begun) is own (are g.begun)
then_named p (Err e) rest is own are = tt

part_named : (file : ℕ → List ℕ → ℕ → Gathering) → ((place : ℕ) (name : List ℕ) (n : ℕ) → AllNamed (file place name n)) → (p : Placed) (name : Option (List ℕ)) → named p.setting ≡ name → (rest : ℕ → Gathering) → ((n : ℕ) → AllNamed (rest n)) → (n : ℕ) → AllNamed (gathered_part file p name rest n)
part_named file files p (Some name) e rest are n =
    then_named p (file p.place (full_name name) n) rest (number_named p.setting name e) (files p.place (full_name name) n) are
part_named file files p None e rest are n = own_named p (rest n) (are n)

list_named : (file : ℕ → List ℕ → ℕ → Gathering) → ((place : ℕ) (name : List ℕ) (n : ℕ) → AllNamed (file place name n)) → (settings : List Placed) (n : ℕ) → AllNamed (gathered file settings n)
list_named file files [] n = tt
list_named file files (p ∷ ps) n = part_named file files p (named p.setting) refl (gathered file ps) (list_named file files ps) n

within_named : (next : List Placed → Gathering) → ((settings : List Placed) → AllNamed (next settings)) → (read : Result (List Placed) JobErr) → AllNamed (within next read)
within_named next are (Ok settings) = are settings
within_named next are (Err e) = tt

files_named : (room : ℕ) (store : Store) (chain : List (List ℕ)) (file : List ℕ) (place : ℕ) (name : List ℕ) (n : ℕ) → AllNamed (file_gathered room store chain file place name n)
unfolding file_gathered
files_named zero store chain file place name n =
    within_named (λ settings. Ok (record { parts = NoPart; begun = n })) (λ settings. tt) (opened true store (at_word chain file place) name n)
files_named (suc room) store chain file place name n =
    within_named (λ settings. gathered (file_gathered room store (chain ++ name ∷ []) name) settings (n + 1))
    (λ settings. list_named (file_gathered room store (chain ++ name ∷ []) name) (files_named room store (chain ++ name ∷ []) name) settings (n + 1))
    (opened false store (at_word chain file place) name n)

pub all_named : (room : ℕ) (store : Store) (chain : List (List ℕ)) (file : List ℕ) (settings : List Placed) (n : ℕ) → AllNamed (gathered (file_gathered room store chain file) settings n)
all_named room store chain file settings n = list_named (file_gathered room store chain file) (files_named room store chain file) settings n

-- What was read from nothing makes the job that is due

from_none : {A : Type 0} (old new xs : List A) → old ≡ [] → new ≡ old ++ xs → new ≡ xs
from_none old new xs none is = is ∙ ap (λ ys. ys ++ xs) none

pub due_read : (old new : Progress) (store : Store) (settings : List Placed) (chain : List (List ℕ)) (line : List ℕ) (n : ℕ) → chain ≡ [] → line ≡ [] → n ≡ 0 → Reads {T = Unit {0}} (Ok tt) (gathered (file_gathered 8 store chain line) settings n) (λ g. Passes old new (ranked g.parts) g) → Reads {T = Unit {0}} (Ok tt) (gathered (file_gathered 8 store [] []) settings 0) (λ g. Passes old new (ranked g.parts) g)
due_read old new store settings chain line n none empty zero_is read =
    subst (λ (m : ℕ). Reads {T = Unit {0}} (Ok tt) (gathered (file_gathered 8 store [] []) settings m) (λ g. Passes old new (ranked g.parts) g)) zero_is
    (subst (λ (l : List ℕ). Reads {T = Unit {0}} (Ok tt) (gathered (file_gathered 8 store [] l) settings n) (λ g. Passes old new (ranked g.parts) g)) empty
    (subst (λ (c : List (List ℕ)). Reads {T = Unit {0}} (Ok tt) (gathered (file_gathered 8 store c line) settings n) (λ g. Passes old new (ranked g.parts) g)) none read))

pub job_read : (old new : Progress) (due : Gathering) (r : Result Job JobErr) → old.lists.items ≡ [] → old.values.files.items ≡ [] → old.values.excluded_files.items ≡ [] → old.values.excluded_dirs.items ≡ [] → AllNamed due → Reads {T = Unit {0}} (Ok tt) due (λ g. Passes old new (ranked g.parts) g) → (r ≡ Ok (job_by (picks_in new.lists.items new.values))) ⊎ (r ≡ Err refused.NoMemory) → (r ≡ job_gathered due) ⊎ (r ≡ Err refused.NoMemory) ⊎ (r ≡ Err refused.StoreFault)
job_read old new (Err e) r lists files excluded_files excluded_dirs are read made = absurd read
job_read old new (Ok g) r lists files excluded_files excluded_dirs are read (inr none) = inr (inl none)
job_read old new (Ok g) r lists files excluded_files excluded_dirs are read (inl made) =
    inl (made ∙ ap (λ (job : Job). Ok job) (
    ap (λ (ls : List (List Placed)). job_by (picks_in ls new.values)) (from_none old.lists.items new.lists.items (ranked g.parts) lists read.lists)
    ∙ picks_make g.parts new.values are
    (from_none old.values.files.items new.values.files.items (files_in (all g.parts)) files read.values.files)
    (from_none old.values.excluded_files.items new.values.excluded_files.items (excluded_files_in (all g.parts)) excluded_files read.values.excluded_files)
    (from_none old.values.excluded_dirs.items new.values.excluded_dirs.items (excluded_dirs_in (all g.parts)) excluded_dirs read.values.excluded_dirs)
    ))
