-- The settings that a job's text gives make that job.
use Rattle.std.proofs.Common.{◌≡◌, ℕ, ◌^◌, ◌<◌, ◌≤◌, Bool, true, false, not, ◌||◌, ◌==◌, min, List, [], ◌∷◌, map, length, Option, Some, None, refl, sym, ap, ◌∙◌, if◌then◌else◌, arith}
use Rattle.std.specs.List.{filter_map}
use Rattle.std.specs.Option.{unwrap_or}
use Rattle.std.specs.Prelude.{IfSome, is_some}
use Rattle.std.proofs.lemmas.Bool.{eq-eqb, eqb-true, true≢false, false≢true}
use Rattle.rc_tree.specs.Attr.{compared}
use Rattle.rc_tree.specs.declared.attr.Attr.{Attr}
use Rattle.rc_tree.specs.declared.entry.Scan.{Scan}
use Rattle.rc_tree.specs.declared.entry.Scan.TheVariants as scan
use Rattle.rc_job.specs.Job.{attributes_alone, dat}
use Rattle.rc_job.specs.Settings.{settings}
use Rattle.rc_job.specs.Values.{attr_letters, copy_flag_letters, directory_letters, is_attributes_alone, is_dat}
use Rattle.rc_job.specs.declared.choices.Moving.{Moving}
use Rattle.rc_job.specs.declared.choices.Moving.TheVariants as moving
use Rattle.rc_job.specs.declared.choices.Sub.{Sub}
use Rattle.rc_job.specs.declared.choices.Sub.TheVariants as sub
use Rattle.rc_job.specs.declared.flags.CopyFlags.{CopyFlags}
use Rattle.rc_job.specs.declared.flags.DirectoryFlags.{DirectoryFlags}
use Rattle.rc_job.specs.declared.job.Job.{Job}
use Rattle.rc_job.specs.declared.lists.Exclude.{Exclude}
use Rattle.rc_words.specs.declared.setting.Placed.{Placed}
use Rattle.rc_words.specs.declared.setting.Setting.{Setting}
use Rattle.rc_words.specs.declared.setting.Setting.TheVariants as setting
use Rattle.rc_jobfiles.specs.Merge.{attr_in, copy_in, directory_in, excluded_dir_of, excluded_dirs_in, excluded_file_of, excluded_files_in, file_of, files_in, files_or_all, given, has, number_in, number_of, root_in, scan_in, small, small_in, small_or}
use Rattle.rc_jobfiles.specs.Picking.{Picks, copy_given, directory_given, job_by, moving_by, sub_by, workers_given, workers_of}
use Rattle.rc_jobfiles.specs.Saved.{IsAllowed}
use Rattle.rc_jobfiles.proofs.Blocks.{in_order}
use Rattle.rc_jobfiles.proofs.SavedBlocks.{all_blocks, moving_settings, rows, scan_settings, sub_settings}
use Rattle.rc_jobfiles.proofs.SettingBlocks.{attr_settings, copy_settings, directory_settings, letters_settings, number_settings, other_settings, root_settings, switch_settings}
use Rattle.rc_jobfiles.proofs.Stretches.{InOrder, at, flat, given_at, given_in, values_at}
use Rattle.rc_jobfiles.proofs.Valued.{alone_back, copy_none, dat_back, directory_none, no_letters, or_none}

-- what the settings of one list give
abbrev pub own_picks : List Placed → Picks
own_picks own = record {
  on = λ n. has n own;
  one = λ n. given n own;
  copy = copy_given own;
  directory = directory_given own;
  workers = workers_given own;
  files = files_in own;
  excluded_files = excluded_files_in own;
  excluded_dirs = excluded_dirs_in own;
}

-- Switches

has_in : ℕ → List Setting → Bool
has_in n ss = is_some (given_in n ss)

first_is : {A : Type 0} (n : ℕ) (x y : A) → (if n == n then x else y) ≡ x
first_is {A} n x y = ap (λ (is : Bool). if is then x else y) (eq-eqb n n refl)

switch_on : (n : ℕ) (on : Bool) (o : Option Setting) → o ≡ given_in n (switch_settings n on) → is_some o ≡ on
switch_on n true o e = ap is_some e ∙ ap is_some (first_is n (Some (setting.Switch n)) None)
switch_on n false o e = ap is_some e

switch_off : (n k : ℕ) → (k == n) ≡ false → (on : Bool) (o : Option Setting) → o ≡ given_in n (switch_settings k on) → is_some o ≡ false
switch_off n k other true o e =
    ap is_some e ∙ ap (λ (is : Bool). is_some (if is then Some (setting.Switch k) else None)) other
switch_off n k other false o e = ap is_some e

sub_back : (s : Sub) → (if is_some (given_in 6 (sub_settings s)) || false then sub.All else if is_some (given_in 5 (sub_settings s)) then sub.NonEmpty else sub.None) ≡ s
sub_back sub.None = refl
sub_back sub.NonEmpty = refl
sub_back sub.All = refl

moving_back : (m : Moving) → (if is_some (given_in 11 (moving_settings m)) then moving.All else if is_some (given_in 10 (moving_settings m)) then moving.Files else moving.No) ≡ m
moving_back moving.No = refl
moving_back moving.Files = refl
moving_back moving.All = refl

scan_back : (s : Scan) → scan_in (given_in 60 (scan_settings s)) ≡ s
scan_back scan.Size = refl
scan_back scan.Digest = refl

-- Roots and numbers

source_back : (root : Option (List ℕ)) → root_in (given_in 0 (root_settings (λ r. setting.Source r) root)) ≡ root
source_back None = refl
source_back (Some root) = refl

target_back : (root : Option (List ℕ)) → root_in (given_in 1 (root_settings (λ r. setting.Target r) root)) ≡ root
target_back None = refl
target_back (Some root) = refl

small_same : (n : ℕ) → n ≤ 4294967295 → small n ≡ n
small_same n h = omega (arith, h)

number_back : (k : ℕ) (o : Option ℕ) → number_in (given_in k (number_settings k o)) ≡ o
number_back k None = refl
number_back k (Some n) = ap number_in (first_is k (Some (setting.Number k n)) None)

small_back : (k : ℕ) (o : Option ℕ) → IfSome o (λ n. n ≤ 4294967295) → small_in (given_in k (number_settings k o)) ≡ o
small_back k None h = refl
small_back k (Some n) h = ap small_in (first_is k (Some (setting.Number k n)) None) ∙ ap (λ (m : ℕ). Some m) (small_same n h)

lev_small : (o : Option ℕ) → IfSome o (λ n. (1 ≤ n) × (n ≤ 65535)) → IfSome o (λ n. n ≤ 4294967295)
lev_small None h = h
lev_small (Some n) h = omega (arith, h.1)

age_small : (o : Option ℕ) → IfSome o (λ n. n < 2 ^ 32) → IfSome o (λ n. n ≤ 4294967295)
age_small None h = h
age_small (Some n) h = omega (arith, h)

other_back : (k default n : ℕ) → n ≤ 4294967295 → small_or default (given_in k (other_settings k default n)) ≡ n
other_back k default n h = by_default (n == default) refl
  where
    by_default : (same : Bool) → (n == default) ≡ same → small_or default (given_in k (if same then [] else setting.Number k n ∷ [])) ≡ n
    by_default true e = sym (eqb-true n default e)
    by_default false e = ap (λ (o : Option Setting). small_or default o) (first_is k (Some (setting.Number k n)) None) ∙ small_same n h

workers_back : (n : ℕ) → n ≤ 128 → unwrap_or (workers_of (given_in 46 (other_settings 46 1 n)) false) 1 ≡ n
workers_back n h = by_default (n == 1) refl
  where
    least : min n 255 ≡ n
    least = omega (arith, h)

    by_default : (same : Bool) → (n == 1) ≡ same → unwrap_or (workers_of (given_in 46 (if same then [] else setting.Number 46 n ∷ [])) false) 1 ≡ n
    by_default true e = sym (eqb-true n 1 e)
    by_default false e = least

-- Letters

abbrev no_flags : CopyFlags
no_flags = record { data_bytes = false; attributes = false; times = false; security = false; owner = false; auditing = false }

-- the flags of `/COPY:` and of `/SEC`, `/COPYALL` and `/NOCOPY`
abbrev copy_from : Option Setting → Bool → Bool → Bool → Option CopyFlags
copy_from written sec everything none =
    let letters = copy_in written in
    let dats = sec || everything in
    if (is_some written || none) || dats
    then Some (record {
      data_bytes = letters.data_bytes || dats;
      attributes = letters.attributes || dats;
      times = letters.times || dats;
      security = letters.security || dats;
      owner = letters.owner || everything;
      auditing = letters.auditing || everything;
    })
    else None

abbrev copy_found : List Setting → Option CopyFlags
copy_found ss = copy_from (given_in 13 ss) (is_some (given_in 14 ss)) (is_some (given_in 15 ss)) (is_some (given_in 16 ss))

copy_whole : (f : CopyFlags) (default : Bool) (cs : List ℕ) → (default ≡ true → f ≡ dat) → (cs ≡ [] → no_flags ≡ f) → unwrap_or (copy_found (if default then [] else letters_settings (setting.Copy f) (setting.Switch 16 ∷ []) cs)) dat ≡ f
copy_whole f true cs is none = sym (is refl)
copy_whole f false [] is none = none refl
copy_whole f false (c ∷ cs) is none =
    λ i. record {
      data_bytes = or_none f.data_bytes i;
      attributes = or_none f.attributes i;
      times = or_none f.times i;
      security = or_none f.security i;
      owner = or_none f.owner i;
      auditing = or_none f.auditing i;
    }

abbrev directory_from : Option Setting → Bool → Option DirectoryFlags
directory_from written none = if is_some written || none then Some (directory_in written) else None

directory_whole : (f : DirectoryFlags) (default : Bool) (cs : List ℕ) → (default ≡ true → f ≡ attributes_alone) → (cs ≡ [] → ◌≡◌ {A = DirectoryFlags} (record { attributes = false; times = false }) f) → unwrap_or (directory_from (given_in 17 (if default then [] else letters_settings (setting.Directory f) (setting.Switch 18 ∷ []) cs)) (is_some (given_in 18 (if default then [] else letters_settings (setting.Directory f) (setting.Switch 18 ∷ []) cs)))) attributes_alone ≡ f
directory_whole f true cs is none = sym (is refl)
directory_whole f false [] is none = none refl
directory_whole f false (c ∷ cs) is none = refl

attr_whole : (k : ℕ) (a : Attr) (cs : List ℕ) → (cs ≡ [] → attr_in None ≡ a) → attr_in (given_in k (letters_settings (setting.Attributes k a) [] cs)) ≡ a
attr_whole k a [] none = none refl
attr_whole k a (c ∷ cs) none = ap attr_in (first_is k (Some (setting.Attributes k a)) None)

attr_back : (k : ℕ) (a : Attr) → a.sparse ≡ false → attr_in (given_in k (attr_settings k a)) ≡ a
attr_back k a none = attr_whole k a (attr_letters a) (no_letters a none)

-- Lists

file_miss : (s : Setting) → (number_of s == 4) ≡ false → file_of s ≡ None
file_miss (setting.File pattern) h = absurd (true≢false h)
file_miss s h = refl

excluded_file_miss : (s : Setting) → (number_of s == 27) ≡ false → excluded_file_of s ≡ None
excluded_file_miss (setting.ExcludeFile v) h = absurd (true≢false h)
excluded_file_miss s h = refl

excluded_dir_miss : (s : Setting) → (number_of s == 28) ≡ false → excluded_dir_of s ≡ None
excluded_dir_miss (setting.ExcludeDir v) h = absurd (true≢false h)
excluded_dir_miss s h = refl

files_back : (ps : List (List ℕ)) → filter_map file_of (map (λ p. setting.File p) ps) ≡ ps
files_back [] = refl
files_back (p ∷ ps) = ap (λ (xs : List (List ℕ)). p ∷ xs) (files_back ps)

excluded_files_back : (vs : List Exclude) → filter_map excluded_file_of (map (λ v. setting.ExcludeFile v) vs) ≡ vs
excluded_files_back [] = refl
excluded_files_back (v ∷ vs) = ap (λ (xs : List Exclude). v ∷ xs) (excluded_files_back vs)

excluded_dirs_back : (vs : List Exclude) → filter_map excluded_dir_of (map (λ v. setting.ExcludeDir v) vs) ≡ vs
excluded_dirs_back [] = refl
excluded_dirs_back (v ∷ vs) = ap (λ (xs : List Exclude). v ∷ xs) (excluded_dirs_back vs)

some_files : (ps : List (List ℕ)) → not (length ps == 0) ≡ true → files_or_all ps ≡ ps
some_files [] h = absurd (false≢true h)
some_files (p ∷ ps) h = refl

-- All settings

pub order : (job : Job) → IsAllowed job → InOrder 72 (rows job)
order job h = in_order 72 (settings job) (rows job) (all_blocks job h)

module _ (job : Job) (h : IsAllowed job) (own : List Placed) (e : map (λ p. p.setting) own ≡ flat (rows job)) where
  look : (n : ℕ) → given n own ≡ given_in n (at n (rows job))
  look n = given_at n own (rows job) (order job h) e

  on : (n : ℕ) (flag : Bool) → given n own ≡ given_in n (switch_settings n flag) → has n own ≡ flag
  on n flag is = switch_on n flag (given n own) is

  sub_is : sub_by (λ n. has n own) ≡ job.sub
  sub_is =
      let all = ap is_some (look 6) in
      let mirror = switch_off 9 8 refl job.purge (given 9 own) (look 9) in
      let some = ap is_some (look 5) in
      let found : sub_by (λ n. has n own) ≡ (if is_some (given_in 6 (sub_settings job.sub)) || false then sub.All else if is_some (given_in 5 (sub_settings job.sub)) then sub.NonEmpty else sub.None) = λ i. if all i || mirror i then sub.All else if some i then sub.NonEmpty else sub.None in
      found ∙ sub_back job.sub

  moving_is : moving_by (λ n. has n own) ≡ job.moving
  moving_is =
      let all = ap is_some (look 11) in
      let files = ap is_some (look 10) in
      let found : moving_by (λ n. has n own) ≡ (if is_some (given_in 11 (moving_settings job.moving)) then moving.All else if is_some (given_in 10 (moving_settings job.moving)) then moving.Files else moving.No) = λ i. if all i then moving.All else if files i then moving.Files else moving.No in
      found ∙ moving_back job.moving

  purge_is : (has 8 own || has 9 own) ≡ job.purge
  purge_is =
      let own_switch = on 8 job.purge (look 8) in
      let mirror = switch_off 9 8 refl job.purge (given 9 own) (look 9) in
      let found : (has 8 own || has 9 own) ≡ (job.purge || false) = λ i. own_switch i || mirror i in
      found ∙ or_none job.purge

  strides_is : (has 43 own || has 44 own) ≡ job.strides
  strides_is =
      let own_switch = on 43 job.strides (look 43) in
      let other = switch_off 44 43 refl job.strides (given 44 own) (look 44) in
      let found : (has 43 own || has 44 own) ≡ (job.strides || false) = λ i. own_switch i || other i in
      found ∙ or_none job.strides

  copy_is : unwrap_or (copy_given own) dat ≡ job.copy
  copy_is =
      let sec = ap is_some (look 14) in
      let everything = ap is_some (look 15) in
      let none = ap is_some (look 16) in
      let found : unwrap_or (copy_given own) dat ≡ unwrap_or (copy_found (copy_settings job.copy)) dat = λ i. unwrap_or (copy_from (look 13 i) (sec i) (everything i) (none i)) dat in
      found ∙ copy_whole job.copy (is_dat job.copy) (copy_flag_letters job.copy) (dat_back job.copy) (copy_none job.copy)

  directory_is : unwrap_or (directory_given own) attributes_alone ≡ job.dcopy
  directory_is =
      let none = ap is_some (look 18) in
      let found : unwrap_or (directory_given own) attributes_alone ≡ unwrap_or (directory_from (given_in 17 (directory_settings job.dcopy)) (is_some (given_in 18 (directory_settings job.dcopy)))) attributes_alone = λ i. unwrap_or (directory_from (look 17 i) (none i)) attributes_alone in
      found ∙ directory_whole job.dcopy (is_attributes_alone job.dcopy) (directory_letters job.dcopy) (alone_back job.dcopy) (directory_none job.dcopy)

  workers_is : unwrap_or (workers_given own) 1 ≡ job.workers
  workers_is =
      let alone = switch_off 45 43 refl job.strides (given 45 own) (look 45) in
      let found : unwrap_or (workers_given own) 1 ≡ unwrap_or (workers_of (given_in 46 (other_settings 46 1 job.workers)) false) 1 = λ i. unwrap_or (workers_of (look 46 i) (alone i)) 1 in
      found ∙ workers_back job.workers h.values.workers.1

  files_is : files_or_all (files_in own) ≡ job.files
  files_is =
      ap files_or_all (values_at file_of 4 file_miss own (rows job) (order job h) e ∙ files_back job.files) ∙ some_files job.files h.files

  pub own_job : job_by (own_picks own) ≡ job
  unfolding job_by
  own_job =
      λ i. record {
        source = (ap root_in (look 0) ∙ source_back job.source) i;
        target = (ap root_in (look 1) ∙ target_back job.target) i;
        no_source = on 2 job.no_source (look 2) i;
        no_target = on 3 job.no_target (look 3) i;
        files = files_is i;
        sub = sub_is i;
        lev = (ap small_in (look 7) ∙ small_back 7 job.lev (lev_small job.lev h.values.lev)) i;
        purge = purge_is i;
        moving = moving_is i;
        create = on 12 job.create (look 12) i;
        copy = copy_is i;
        dcopy = directory_is i;
        secfix = on 19 job.secfix (look 19) i;
        timfix = on 20 job.timfix (look 20) i;
        plus = (ap attr_in (look 21) ∙ attr_back 21 (compared job.plus) refl ∙ h.values.plus) i;
        minus = (ap attr_in (look 22) ∙ attr_back 22 (compared job.minus) refl ∙ h.values.minus) i;
        only_a = on 23 job.only_a (look 23) i;
        only_m = on 24 job.only_m (look 24) i;
        ia = (ap attr_in (look 25) ∙ attr_back 25 job.ia h.values.ia) i;
        xa = (ap attr_in (look 26) ∙ attr_back 26 job.xa h.values.xa) i;
        xf = (values_at excluded_file_of 27 excluded_file_miss own (rows job) (order job h) e ∙ excluded_files_back job.xf) i;
        xd = (values_at excluded_dir_of 28 excluded_dir_miss own (rows job) (order job h) e ∙ excluded_dirs_back job.xd) i;
        xc = on 29 job.xc (look 29) i;
        xn = on 30 job.xn (look 30) i;
        xo = on 31 job.xo (look 31) i;
        xl = on 32 job.xl (look 32) i;
        xx = on 33 job.xx (look 33) i;
        with_same = on 34 job.with_same (look 34) i;
        with_tweaked = on 35 job.with_tweaked (look 35) i;
        max = (ap number_in (look 36) ∙ number_back 36 job.max) i;
        min = (ap number_in (look 37) ∙ number_back 37 job.min) i;
        maxage = (ap small_in (look 38) ∙ small_back 38 job.maxage (age_small job.maxage h.values.maxage)) i;
        minage = (ap small_in (look 39) ∙ small_back 39 job.minage (age_small job.minage h.values.minage)) i;
        fft = on 40 job.fft (look 40) i;
        dst = on 41 job.dst (look 41) i;
        all_extras = on 42 job.all_extras (look 42) i;
        strides = strides_is i;
        workers = workers_is i;
        retries = (ap (λ (o : Option Setting). small_or 1000000 o) (look 47) ∙ other_back 47 1000000 job.retries (omega (arith, h.values.retries))) i;
        wait = (ap (λ (o : Option Setting). small_or 30 o) (look 48) ∙ other_back 48 30 job.wait (omega (arith, h.values.wait))) i;
        list_only = on 49 job.list_only (look 49) i;
        verbose = on 50 job.verbose (look 50) i;
        nfl = on 51 job.nfl (look 51) i;
        ndl = on 52 job.ndl (look 52) i;
        nc = on 53 job.nc (look 53) i;
        ns = on 54 job.ns (look 54) i;
        njh = on 55 job.njh (look 55) i;
        njs = on 56 job.njs (look 56) i;
        plain_bytes = on 57 job.plain_bytes (look 57) i;
        full_path = on 58 job.full_path (look 58) i;
        with_time = on 59 job.with_time (look 59) i;
        scan = (ap scan_in (look 60) ∙ scan_back job.scan) i;
      }

  -- no setting names a job file
  pub no_file : given 68 own ≡ None
  no_file = look 68 ∙ none job.scan
    where
      none : (s : Scan) → given_in 68 (scan_settings s) ≡ None
      none scan.Size = refl
      none scan.Digest = refl
