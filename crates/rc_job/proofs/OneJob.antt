-- Jobs with one canonical text are one job, and those with one core text decide alike.
use Rattle.std.proofs.Common.{◌≡◌, ℕ, zero, suc, List, [], ◌∷◌, map, codes, refl, sym, ap, ◌∙◌, arith}
use Rattle.rc_job.specs.Allowed.{HasAllowedValues}
use Rattle.rc_job.specs.Deciding.{deciding_part}
use Rattle.rc_job.specs.Settings.{settings, canonical, core}
use Rattle.rc_job.specs.Values.{Lines}
use Rattle.rc_job.specs.declared.job.Job.{Job}
use Rattle.rc_job.proofs.Blocks.{same_blocks, blocks_lines}
use Rattle.rc_job.proofs.Ends.{all_lines, same_lines, written_is}
use Rattle.rc_job.proofs.Read.{same_switch, same_sub, same_moving, same_scan, same_number, same_other_number, same_root, same_files, same_excludes, same_copy_lines, same_directory_lines, same_attr_lines, same_changed_lines}
use Rattle.rc_job.proofs.Written.{all_blocks, age_small, lev_small, workers_small, retries_small, wait_small}

-- the lines of each setting are the same
each_setting : (one two : Job) → HasAllowedValues one → HasAllowedValues two → canonical one ≡ canonical two → map (λ s. s.lines) (settings one) ≡ map (λ s. s.lines) (settings two)
unfolding canonical
each_setting one two a b e =
    let mine = all_blocks one a in
    let yours = all_blocks two b in
    let texts = sym (written_is (settings one)) ∙ e ∙ written_is (settings two) in
    same_blocks 0 (settings one) (settings two) refl mine yours
    (same_lines (all_lines (settings one)) (all_lines (settings two)) (blocks_lines 0 (settings one) mine) (blocks_lines 0 (settings two) yours) texts)

abbrev lines_at : ℕ → List Lines → Lines
lines_at n [] = []
lines_at zero (lines ∷ more) = lines
lines_at (suc n) (lines ∷ more) = lines_at n more

pub one_job : (one two : Job) → HasAllowedValues one → HasAllowedValues two → canonical one ≡ canonical two → one ≡ two
one_job one two a b e =
    let all = each_setting one two a b e in
    let line = λ (n : ℕ). ap (λ (lines : List Lines). lines_at n lines) all in
    λ i. record {
      source = same_root (codes "/SD:") one.source two.source a.source b.source (line 0) i;
      target = same_root (codes "/DD:") one.target two.target a.target b.target (line 1) i;
      no_source = same_switch (codes "/NOSD") one.no_source two.no_source (line 2) i;
      no_target = same_switch (codes "/NODD") one.no_target two.no_target (line 3) i;
      files = same_files (codes "/IF") one.files two.files a.files b.files (line 4) i;
      sub = same_sub one.sub two.sub (line 5) i;
      lev = same_number (codes "/LEV:") one.lev two.lev (lev_small one a) (lev_small two b) (line 6) i;
      purge = same_switch (codes "/PURGE") one.purge two.purge (line 7) i;
      moving = same_moving one.moving two.moving (line 8) i;
      create = same_switch (codes "/CREATE") one.create two.create (line 9) i;
      copy = same_copy_lines one.copy two.copy (line 10) i;
      dcopy = same_directory_lines one.dcopy two.dcopy (line 11) i;
      secfix = same_switch (codes "/SECFIX") one.secfix two.secfix (line 12) i;
      timfix = same_switch (codes "/TIMFIX") one.timfix two.timfix (line 13) i;
      plus = same_changed_lines (codes "/A+:") one.plus two.plus a.plus b.plus (line 14) i;
      minus = same_changed_lines (codes "/A-:") one.minus two.minus a.minus b.minus (line 15) i;
      only_a = same_switch (codes "/A") one.only_a two.only_a (line 16) i;
      only_m = same_switch (codes "/M") one.only_m two.only_m (line 17) i;
      ia = same_attr_lines (codes "/IA:") one.ia two.ia a.ia b.ia (line 18) i;
      xa = same_attr_lines (codes "/XA:") one.xa two.xa a.xa b.xa (line 19) i;
      xf = same_excludes (codes "/XF") one.xf two.xf a.xf b.xf (line 20) i;
      xd = same_excludes (codes "/XD") one.xd two.xd a.xd b.xd (line 21) i;
      xc = same_switch (codes "/XC") one.xc two.xc (line 22) i;
      xn = same_switch (codes "/XN") one.xn two.xn (line 23) i;
      xo = same_switch (codes "/XO") one.xo two.xo (line 24) i;
      xl = same_switch (codes "/XL") one.xl two.xl (line 25) i;
      xx = same_switch (codes "/XX") one.xx two.xx (line 26) i;
      with_same = same_switch (codes "/IS") one.with_same two.with_same (line 27) i;
      with_tweaked = same_switch (codes "/IT") one.with_tweaked two.with_tweaked (line 28) i;
      max = same_number (codes "/MAX:") one.max two.max a.max b.max (line 29) i;
      min = same_number (codes "/MIN:") one.min two.min a.min b.min (line 30) i;
      maxage = same_number (codes "/MAXAGE:") one.maxage two.maxage (age_small one.maxage a.maxage) (age_small two.maxage b.maxage) (line 31) i;
      minage = same_number (codes "/MINAGE:") one.minage two.minage (age_small one.minage a.minage) (age_small two.minage b.minage) (line 32) i;
      fft = same_switch (codes "/FFT") one.fft two.fft (line 33) i;
      dst = same_switch (codes "/DST") one.dst two.dst (line 34) i;
      all_extras = same_switch (codes "/X") one.all_extras two.all_extras (line 35) i;
      strides = same_switch (codes "/Z") one.strides two.strides (line 36) i;
      workers = same_other_number (codes "/MT:") 1 one.workers two.workers (workers_small one a) (workers_small two b) (line 37) i;
      retries = same_other_number (codes "/R:") 1000000 one.retries two.retries (retries_small one a) (retries_small two b) (line 38) i;
      wait = same_other_number (codes "/W:") 30 one.wait two.wait (wait_small one a) (wait_small two b) (line 39) i;
      list_only = same_switch (codes "/L") one.list_only two.list_only (line 40) i;
      verbose = same_switch (codes "/V") one.verbose two.verbose (line 41) i;
      nfl = same_switch (codes "/NFL") one.nfl two.nfl (line 42) i;
      ndl = same_switch (codes "/NDL") one.ndl two.ndl (line 43) i;
      nc = same_switch (codes "/NC") one.nc two.nc (line 44) i;
      ns = same_switch (codes "/NS") one.ns two.ns (line 45) i;
      njh = same_switch (codes "/NJH") one.njh two.njh (line 46) i;
      njs = same_switch (codes "/NJS") one.njs two.njs (line 47) i;
      plain_bytes = same_switch (codes "/BYTES") one.plain_bytes two.plain_bytes (line 48) i;
      full_path = same_switch (codes "/FP") one.full_path two.full_path (line 49) i;
      with_time = same_switch (codes "/TS") one.with_time two.with_time (line 50) i;
      scan = same_scan one.scan two.scan (line 51) i;
    }

-- the part that decides has allowed values where the job has, and its text is the core text

allowed_part : (job : Job) → HasAllowedValues job → HasAllowedValues (deciding_part job)
allowed_part job h = record {
  source = h.source;
  target = h.target;
  files = h.files;
  lev = h.lev;
  plus = h.plus;
  minus = h.minus;
  ia = h.ia;
  xa = h.xa;
  xf = h.xf;
  xd = h.xd;
  max = h.max;
  min = h.min;
  maxage = h.maxage;
  minage = h.minage;
  workers = (omega arith, omega arith);
  retries = omega arith;
  wait = omega arith;
}

core_is : (job : Job) → canonical (deciding_part job) ≡ core job
unfolding canonical core
core_is job = refl

pub one_decision : (one two : Job) → HasAllowedValues one → HasAllowedValues two → core one ≡ core two → deciding_part one ≡ deciding_part two
one_decision one two a b e =
    one_job (deciding_part one) (deciding_part two) (allowed_part one a) (allowed_part two b) (core_is one ∙ e ∙ sym (core_is two))

pub one_core : (one two : Job) → deciding_part one ≡ deciding_part two → core one ≡ core two
one_core one two e = sym (core_is one) ∙ ap canonical e ∙ core_is two
