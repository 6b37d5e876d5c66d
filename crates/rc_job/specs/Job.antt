-- The settings of a job that was given none.
use Rattle.std.specs.Prelude.{true, false, [], ◌∷◌, None, codes}
use Rattle.rc_tree.specs.Attr.{no_attr}
use Rattle.rc_tree.specs.declared.entry.Scan.TheVariants as scan
use Rattle.rc_job.specs.declared.choices.Moving.TheVariants as moving
use Rattle.rc_job.specs.declared.choices.Sub.TheVariants as sub
use Rattle.rc_job.specs.declared.flags.CopyFlags.{CopyFlags}
use Rattle.rc_job.specs.declared.flags.DirectoryFlags.{DirectoryFlags}
use Rattle.rc_job.specs.declared.job.Job.{Job}

-- data, attributes and times
abbrev pub dat : CopyFlags
dat = record { data_bytes = true; attributes = true; times = true; security = false; owner = false; auditing = false }

-- attributes, and no times
abbrev pub attributes_alone : DirectoryFlags
attributes_alone = record { attributes = true; times = false }

abbrev pub default_job : Job
default_job = record {
  source = None;
  target = None;
  no_source = false;
  no_target = false;
  files = codes "*.*" ∷ [];
  sub = sub.None;
  lev = None;
  purge = false;
  moving = moving.No;
  create = false;
  copy = dat;
  dcopy = attributes_alone;
  secfix = false;
  timfix = false;
  plus = no_attr;
  minus = no_attr;
  only_a = false;
  only_m = false;
  ia = no_attr;
  xa = no_attr;
  xf = [];
  xd = [];
  xc = false;
  xn = false;
  xo = false;
  xl = false;
  xx = false;
  with_same = false;
  with_tweaked = false;
  max = None;
  min = None;
  maxage = None;
  minage = None;
  fft = false;
  dst = false;
  all_extras = false;
  strides = false;
  workers = 1;
  retries = 1000000;
  wait = 30;
  list_only = false;
  verbose = false;
  nfl = false;
  ndl = false;
  nc = false;
  ns = false;
  njh = false;
  njs = false;
  plain_bytes = false;
  full_path = false;
  with_time = false;
  scan = scan.Size;
}
