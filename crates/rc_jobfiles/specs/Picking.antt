-- The job that lists of words make.
use Rattle.std.specs.Prelude.{ℕ, Bool, true, false, ◌||◌, List, [], ◌∷◌, Option, None, Some, min, if◌then◌else◌}
use Rattle.std.specs.Option.{unwrap_or}
use Rattle.rc_job.specs.Job.{dat, attributes_alone}
use Rattle.rc_job.specs.declared.choices.Moving.{Moving}
use Rattle.rc_job.specs.declared.choices.Moving.TheVariants as moving
use Rattle.rc_job.specs.declared.choices.Sub.{Sub}
use Rattle.rc_job.specs.declared.choices.Sub.TheVariants as sub
use Rattle.rc_job.specs.declared.flags.CopyFlags.{CopyFlags}
use Rattle.rc_job.specs.declared.flags.DirectoryFlags.{DirectoryFlags}
use Rattle.rc_job.specs.declared.job.Job.{Job}
use Rattle.rc_job.specs.declared.lists.Exclude.{Exclude}
use Rattle.rc_words.specs.declared.setting.Placed.{Placed}
use Rattle.rc_words.specs.declared.setting.Setting.{Setting}
use Rattle.rc_words.specs.declared.setting.Setting.TheVariants as setting
use Rattle.rc_jobfiles.specs.Merge.{attr_in, copy_in, directory_in, excluded_dirs_in, excluded_files_in, files_in, files_or_all, given, has, number_in, root_in, scan_in, small_in, small_or}
use Rattle.rc_jobfiles.specs.Parts.{Parts, all, picked}

-- What the words of one list give

-- the letters of `/COPY:` and those for which `/SEC` (D, A, T, S), `/COPYALL` (all) and `/NOCOPY` (none) stand
abbrev pub copy_given : List Placed → Option CopyFlags
copy_given settings =
    let letters = copy_in (given 13 settings) in
    let dats = has 14 settings || has 15 settings in
    if (has 13 settings || has 16 settings) || dats
    then Some (record {
      data_bytes = letters.data_bytes || dats;
      attributes = letters.attributes || dats;
      times = letters.times || dats;
      security = letters.security || dats;
      owner = letters.owner || has 15 settings;
      auditing = letters.auditing || has 15 settings;
    })
    else None

-- the letters of `/DCOPY:`; `/NODCOPY` stands for none
abbrev pub directory_given : List Placed → Option DirectoryFlags
directory_given settings =
    if has 17 settings || has 18 settings then Some (directory_in (given 17 settings)) else None

-- `/MT` alone is 8, and has no effect beside `/MT:`; a greater number than 255, which no word gives, counts as that
abbrev pub workers_of : Option Setting → Bool → Option ℕ
workers_of (Some (setting.Number number value)) alone = Some (min value 255)
workers_of other alone = if alone then Some 8 else None

abbrev pub workers_given : List Placed → Option ℕ
workers_given settings = workers_of (given 46 settings) (has 45 settings)

-- What lists give together: whether a switch is on, the value of a single setting, and those that are made of more

pub record Picks : Type 0 where
  pub on : ℕ → Bool
  pub one : ℕ → Option Setting
  pub copy : Option CopyFlags
  pub directory : Option DirectoryFlags
  pub workers : Option ℕ
  pub files : List (List ℕ)
  pub excluded_files : List Exclude
  pub excluded_dirs : List Exclude

-- `/E` wins over `/S`, and `/MIR` is `/E` and `/PURGE`
abbrev pub sub_by : (ℕ → Bool) → Sub
sub_by on = if on 6 || on 9 then sub.All else if on 5 then sub.NonEmpty else sub.None

abbrev pub moving_by : (ℕ → Bool) → Moving
moving_by on = if on 11 then moving.All else if on 10 then moving.Files else moving.No

-- the job of what lists give; a switch is named by its number in the switch table, and what was not given has its default
unfoldable pub job_by : Picks → Job
job_by p = record {
  source = root_in (p.one 0);
  target = root_in (p.one 1);
  no_source = p.on 2;
  no_target = p.on 3;
  files = files_or_all p.files;
  sub = sub_by p.on;
  lev = small_in (p.one 7);
  purge = p.on 8 || p.on 9;
  moving = moving_by p.on;
  create = p.on 12;
  copy = unwrap_or p.copy dat;
  dcopy = unwrap_or p.directory attributes_alone;
  secfix = p.on 19;
  timfix = p.on 20;
  plus = attr_in (p.one 21);
  minus = attr_in (p.one 22);
  only_a = p.on 23;
  only_m = p.on 24;
  ia = attr_in (p.one 25);
  xa = attr_in (p.one 26);
  xf = p.excluded_files;
  xd = p.excluded_dirs;
  xc = p.on 29;
  xn = p.on 30;
  xo = p.on 31;
  xl = p.on 32;
  xx = p.on 33;
  with_same = p.on 34;
  with_tweaked = p.on 35;
  max = number_in (p.one 36);
  min = number_in (p.one 37);
  maxage = small_in (p.one 38);
  minage = small_in (p.one 39);
  fft = p.on 40;
  dst = p.on 41;
  all_extras = p.on 42;
  strides = p.on 43 || p.on 44;
  workers = unwrap_or p.workers 1;
  retries = small_or 1000000 (p.one 47);
  wait = small_or 30 (p.one 48);
  list_only = p.on 49;
  verbose = p.on 50;
  nfl = p.on 51;
  ndl = p.on 52;
  nc = p.on 53;
  ns = p.on 54;
  njh = p.on 55;
  njs = p.on 56;
  plain_bytes = p.on 57;
  full_path = p.on 58;
  with_time = p.on 59;
  scan = scan_in (p.one 60);
}

-- a switch without a value is on where it stands in any list, and lists are joined
abbrev pub picks_of : Parts → Picks
picks_of parts = record {
  on = λ n. has n (all parts);
  one = λ n. picked (given n) parts;
  copy = picked copy_given parts;
  directory = picked directory_given parts;
  workers = picked workers_given parts;
  files = files_in (all parts);
  excluded_files = excluded_files_in (all parts);
  excluded_dirs = excluded_dirs_in (all parts);
}

-- the job of a list of words with the files that it names
abbrev pub job_of : Parts → Job
job_of parts = job_by (picks_of parts)
