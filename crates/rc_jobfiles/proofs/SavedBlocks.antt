-- What is written of each setting of a job is a block.
use Rattle.std.proofs.Common.{◌≡◌, inr, ℕ, ◌^◌, ◌<◌, ◌≤◌, true, List, [], ◌∷◌, ◌++◌, map, Option, Some, None, Ok, codes, refl, arith}
use Rattle.std.specs.Prelude.{IfSome}
use Rattle.rc_tree.specs.Attr.{compared}
use Rattle.rc_tree.specs.declared.entry.Scan.{Scan}
use Rattle.rc_tree.specs.declared.entry.Scan.TheVariants as scan
use Rattle.rc_job.specs.Allowed.{HasAllowedValues}
use Rattle.rc_job.specs.Settings.{bound_settings, changed_settings, class_settings, copied_settings, deciding_settings, exclude_settings, filter_settings, layout_settings, missing_settings, moving_lines, root_settings as root_written, run_settings, scan_lines, settings, shown_settings, sub_lines, tree_settings}
use Rattle.rc_job.specs.declared.choices.Moving.{Moving}
use Rattle.rc_job.specs.declared.choices.Moving.TheVariants as moving
use Rattle.rc_job.specs.declared.choices.Sub.{Sub}
use Rattle.rc_job.specs.declared.choices.Sub.TheVariants as sub
use Rattle.rc_job.specs.declared.job.Job.{Job}
use Rattle.rc_words.specs.Values.{is_age}
use Rattle.rc_words.specs.declared.setting.Setting.{Setting}
use Rattle.rc_words.specs.declared.setting.Setting.TheVariants as setting
use Rattle.rc_words.specs.declared.table.Value.TheVariants as value
use Rattle.rc_jobfiles.specs.Saved.{IsAllowed}
use Rattle.rc_jobfiles.proofs.Blocks.{Block, Blocks, both_blocks}
use Rattle.rc_jobfiles.proofs.Names.{bound_names, changed_names, class_names, copied_names, exclude_names, filter_names, layout_names, missing_names, root_names, run_names, shown_names, tree_names}
use Rattle.rc_jobfiles.proofs.SettingBlocks.{age_block, attr_block, attr_settings, changed_block, copy_block, copy_settings, directory_block, directory_settings, exclude_dirs_block, exclude_files_block, files_block, literal_block, no_block, number_block, number_settings, one_switch, other_block, other_settings, root_settings, source_block, switch_block, switch_settings, target_block}
use Rattle.rc_jobfiles.proofs.Stretches.{Stretch}
use Rattle.rc_jobfiles.proofs.Valued.{dirs_are_excluded, excludes_are_texts, files_are_excluded, files_are_made, files_are_texts}

-- One of a few

abbrev pub sub_settings : Sub → List Setting
sub_settings sub.None = []
sub_settings sub.NonEmpty = setting.Switch 5 ∷ []
sub_settings sub.All = setting.Switch 6 ∷ []

sub_block : (s : Sub) → Block 5 7 (sub_lines s) (sub_settings s)
sub_block sub.None = no_block 5 7 refl
sub_block sub.NonEmpty = one_switch 5 7 5 (codes "S") tree_names.1 refl
sub_block sub.All = one_switch 5 7 6 (codes "E") tree_names.2 refl

abbrev pub moving_settings : Moving → List Setting
moving_settings moving.No = []
moving_settings moving.Files = setting.Switch 10 ∷ []
moving_settings moving.All = setting.Switch 11 ∷ []

moving_block : (m : Moving) → Block 10 12 (moving_lines m) (moving_settings m)
moving_block moving.No = no_block 10 12 refl
moving_block moving.Files = one_switch 10 12 10 (codes "MOV") tree_names.5 refl
moving_block moving.All = one_switch 10 12 11 (codes "MOVE") tree_names.6 refl

abbrev pub scan_settings : Scan → List Setting
scan_settings scan.Size = []
scan_settings scan.Digest = setting.Scanning scan.Digest ∷ []

scan_block : (s : Scan) → Block 60 72 (scan_lines s) (scan_settings s)
scan_block scan.Size = no_block 60 72 refl
scan_block scan.Digest = literal_block 60 72 (codes "SCAN:") (codes "DIGEST") value.Scan (setting.Scanning scan.Digest) layout_names.5 (inr refl) refl refl refl refl

-- Bounds

lev_fits : (o : Option ℕ) → IfSome o (λ n. (1 ≤ n) × (n ≤ 65535)) → IfSome o (λ n. (n < 2 ^ 64) × (1 ≤ n) × (n ≤ 65535))
lev_fits None h = h
lev_fits (Some n) h = (omega (arith, h.1), h.0, h.1)

size_fits : (o : Option ℕ) → IfSome o (λ n. n < 2 ^ 64) → IfSome o (λ n. (n < 2 ^ 64) × (0 ≤ n) × (n ≤ 18446744073709551615))
size_fits None h = h
size_fits (Some n) h = (h, omega arith, omega (arith, h))

age_fits : (o : Option ℕ) → IfSome o (λ n. n < 2 ^ 32) → IfSome o (λ n. is_age n ≡ true) → IfSome o (λ n. (n < 2 ^ 64) × (is_age n ≡ true))
age_fits None small is = small
age_fits (Some n) small is = (omega (arith, small), is)

-- The stretches of a job's settings

abbrev row : ℕ → List Setting → Stretch
row n made = record { least = n; settings = made }

abbrev root_rows : Job → List Stretch
root_rows job =
    row 0 (root_settings (λ r. setting.Source r) job.source)
    ∷ row 1 (root_settings (λ r. setting.Target r) job.target)
    ∷ []

abbrev missing_rows : Job → List Stretch
missing_rows job =
    row 2 (switch_settings 2 job.no_source)
    ∷ row 3 (switch_settings 3 job.no_target)
    ∷ []

abbrev tree_rows : Job → List Stretch
tree_rows job =
    row 4 (map (λ p. setting.File p) job.files)
    ∷ row 5 (sub_settings job.sub)
    ∷ row 7 (number_settings 7 job.lev)
    ∷ row 8 (switch_settings 8 job.purge)
    ∷ row 10 (moving_settings job.moving)
    ∷ row 12 (switch_settings 12 job.create)
    ∷ []

abbrev copied_rows : Job → List Stretch
copied_rows job =
    row 13 (copy_settings job.copy)
    ∷ row 17 (directory_settings job.dcopy)
    ∷ row 19 (switch_settings 19 job.secfix)
    ∷ row 20 (switch_settings 20 job.timfix)
    ∷ []

abbrev changed_rows : Job → List Stretch
changed_rows job =
    row 21 (attr_settings 21 (compared job.plus))
    ∷ row 22 (attr_settings 22 (compared job.minus))
    ∷ []

abbrev filter_rows : Job → List Stretch
filter_rows job =
    row 23 (switch_settings 23 job.only_a)
    ∷ row 24 (switch_settings 24 job.only_m)
    ∷ row 25 (attr_settings 25 job.ia)
    ∷ row 26 (attr_settings 26 job.xa)
    ∷ []

abbrev exclude_rows : Job → List Stretch
exclude_rows job =
    row 27 (map (λ v. setting.ExcludeFile v) job.xf)
    ∷ row 28 (map (λ v. setting.ExcludeDir v) job.xd)
    ∷ []

abbrev class_rows : Job → List Stretch
class_rows job =
    row 29 (switch_settings 29 job.xc)
    ∷ row 30 (switch_settings 30 job.xn)
    ∷ row 31 (switch_settings 31 job.xo)
    ∷ row 32 (switch_settings 32 job.xl)
    ∷ row 33 (switch_settings 33 job.xx)
    ∷ row 34 (switch_settings 34 job.with_same)
    ∷ row 35 (switch_settings 35 job.with_tweaked)
    ∷ []

abbrev bound_rows : Job → List Stretch
bound_rows job =
    row 36 (number_settings 36 job.max)
    ∷ row 37 (number_settings 37 job.min)
    ∷ row 38 (number_settings 38 job.maxage)
    ∷ row 39 (number_settings 39 job.minage)
    ∷ row 40 (switch_settings 40 job.fft)
    ∷ row 41 (switch_settings 41 job.dst)
    ∷ row 42 (switch_settings 42 job.all_extras)
    ∷ []

abbrev run_rows : Job → List Stretch
run_rows job =
    row 43 (switch_settings 43 job.strides)
    ∷ row 46 (other_settings 46 1 job.workers)
    ∷ row 47 (other_settings 47 1000000 job.retries)
    ∷ row 48 (other_settings 48 30 job.wait)
    ∷ row 49 (switch_settings 49 job.list_only)
    ∷ []

abbrev shown_rows : Job → List Stretch
shown_rows job =
    row 50 (switch_settings 50 job.verbose)
    ∷ row 51 (switch_settings 51 job.nfl)
    ∷ row 52 (switch_settings 52 job.ndl)
    ∷ row 53 (switch_settings 53 job.nc)
    ∷ row 54 (switch_settings 54 job.ns)
    ∷ []

abbrev layout_rows : Job → List Stretch
layout_rows job =
    row 55 (switch_settings 55 job.njh)
    ∷ row 56 (switch_settings 56 job.njs)
    ∷ row 57 (switch_settings 57 job.plain_bytes)
    ∷ row 58 (switch_settings 58 job.full_path)
    ∷ row 59 (switch_settings 59 job.with_time)
    ∷ row 60 (scan_settings job.scan)
    ∷ []

abbrev deciding_rows : Job → List Stretch
deciding_rows job =
    tree_rows job ++ (copied_rows job ++ (changed_rows job ++ (filter_rows job ++ (exclude_rows job ++ (class_rows job ++ bound_rows job)))))

abbrev pub rows : Job → List Stretch
rows job =
    root_rows job ++ (missing_rows job ++ (deciding_rows job ++ (run_rows job ++ (shown_rows job ++ layout_rows job))))

-- Each is a block

root_blocks : (job : Job) → IsAllowed job → Blocks 2 (root_written job) (root_rows job)
root_blocks job h = (
  source_block (codes "SD:") root_names.0 job.source h.values.source,
  (target_block (codes "DD:") root_names.1 job.target h.values.target, tt),
)

missing_blocks : (job : Job) → IsAllowed job → Blocks 4 (missing_settings job) (missing_rows job)
missing_blocks job h = (
  switch_block 2 3 (codes "NOSD") missing_names.0 refl job.no_source,
  (switch_block 3 4 (codes "NODD") missing_names.1 refl job.no_target, tt),
)

tree_blocks : (job : Job) → IsAllowed job → Blocks 13 (tree_settings job) (tree_rows job)
tree_blocks job h = (
  files_block (codes "IF") tree_names.0 job.files (files_are_texts job.files h.values.files) (files_are_made job.files h.values.files),
  (
    sub_block job.sub,
    (
      number_block 7 8 1 65535 (codes "LEV:") tree_names.3 refl job.lev (lev_fits job.lev h.values.lev),
      (
        switch_block 8 10 (codes "PURGE") tree_names.4 refl job.purge,
        (
          moving_block job.moving,
          (switch_block 12 13 (codes "CREATE") tree_names.7 refl job.create, tt),
        ),
      ),
    ),
  ),
)

copied_blocks : (job : Job) → IsAllowed job → Blocks 21 (copied_settings job) (copied_rows job)
copied_blocks job h = (
  copy_block copied_names.0 copied_names.1 job.copy,
  (
    directory_block copied_names.2 copied_names.3 job.dcopy,
    (
      switch_block 19 20 (codes "SECFIX") copied_names.4 refl job.secfix,
      (switch_block 20 21 (codes "TIMFIX") copied_names.5 refl job.timfix, tt),
    ),
  ),
)

changed_blocks : (job : Job) → IsAllowed job → Blocks 23 (changed_settings job) (changed_rows job)
changed_blocks job h = (
  changed_block 21 22 (codes "A+:") changed_names.0 refl job.plus,
  (changed_block 22 23 (codes "A-:") changed_names.1 refl job.minus, tt),
)

filter_blocks : (job : Job) → IsAllowed job → Blocks 27 (filter_settings job) (filter_rows job)
filter_blocks job h = (
  switch_block 23 24 (codes "A") filter_names.0 refl job.only_a,
  (
    switch_block 24 25 (codes "M") filter_names.1 refl job.only_m,
    (
      attr_block 25 26 (codes "IA:") filter_names.2 refl job.ia h.values.ia,
      (attr_block 26 27 (codes "XA:") filter_names.3 refl job.xa h.values.xa, tt),
    ),
  ),
)

exclude_blocks : (job : Job) → IsAllowed job → Blocks 29 (exclude_settings job) (exclude_rows job)
exclude_blocks job h = (
  exclude_files_block (codes "XF") exclude_names.0 job.xf (excludes_are_texts job.xf h.values.xf) (files_are_excluded job.xf h.values.xf),
  (exclude_dirs_block (codes "XD") exclude_names.1 job.xd (excludes_are_texts job.xd h.values.xd) (dirs_are_excluded job.xd h.values.xd), tt),
)

class_blocks : (job : Job) → IsAllowed job → Blocks 36 (class_settings job) (class_rows job)
class_blocks job h = (
  switch_block 29 30 (codes "XC") class_names.0 refl job.xc,
  (
    switch_block 30 31 (codes "XN") class_names.1 refl job.xn,
    (
      switch_block 31 32 (codes "XO") class_names.2 refl job.xo,
      (
        switch_block 32 33 (codes "XL") class_names.3 refl job.xl,
        (
          switch_block 33 34 (codes "XX") class_names.4 refl job.xx,
          (
            switch_block 34 35 (codes "IS") class_names.5 refl job.with_same,
            (switch_block 35 36 (codes "IT") class_names.6 refl job.with_tweaked, tt),
          ),
        ),
      ),
    ),
  ),
)

bound_blocks : (job : Job) → IsAllowed job → Blocks 43 (bound_settings job) (bound_rows job)
bound_blocks job h = (
  number_block 36 37 0 18446744073709551615 (codes "MAX:") bound_names.0 refl job.max (size_fits job.max h.values.max),
  (
    number_block 37 38 0 18446744073709551615 (codes "MIN:") bound_names.1 refl job.min (size_fits job.min h.values.min),
    (
      age_block 38 39 (codes "MAXAGE:") bound_names.2 refl job.maxage (age_fits job.maxage h.values.maxage h.maxage),
      (
        age_block 39 40 (codes "MINAGE:") bound_names.3 refl job.minage (age_fits job.minage h.values.minage h.minage),
        (
          switch_block 40 41 (codes "FFT") bound_names.4 refl job.fft,
          (
            switch_block 41 42 (codes "DST") bound_names.5 refl job.dst,
            (switch_block 42 43 (codes "X") bound_names.6 refl job.all_extras, tt),
          ),
        ),
      ),
    ),
  ),
)

run_blocks : (job : Job) → IsAllowed job → Blocks 50 (run_settings job) (run_rows job)
run_blocks job h = (
  switch_block 43 46 (codes "Z") run_names.0 refl job.strides,
  (
    other_block 46 47 1 128 1 (codes "MT:") run_names.1 refl job.workers (omega (arith, h.values.workers.1)) h.values.workers.0 h.values.workers.1,
    (
      other_block 47 48 0 1000000000 1000000 (codes "R:") run_names.2 refl job.retries (omega (arith, h.values.retries)) (omega arith) h.values.retries,
      (
        other_block 48 49 0 1000000000 30 (codes "W:") run_names.3 refl job.wait (omega (arith, h.values.wait)) (omega arith) h.values.wait,
        (switch_block 49 50 (codes "L") run_names.4 refl job.list_only, tt),
      ),
    ),
  ),
)

shown_blocks : (job : Job) → IsAllowed job → Blocks 55 (shown_settings job) (shown_rows job)
shown_blocks job h = (
  switch_block 50 51 (codes "V") shown_names.0 refl job.verbose,
  (
    switch_block 51 52 (codes "NFL") shown_names.1 refl job.nfl,
    (
      switch_block 52 53 (codes "NDL") shown_names.2 refl job.ndl,
      (
        switch_block 53 54 (codes "NC") shown_names.3 refl job.nc,
        (switch_block 54 55 (codes "NS") shown_names.4 refl job.ns, tt),
      ),
    ),
  ),
)

layout_blocks : (job : Job) → IsAllowed job → Blocks 72 (layout_settings job) (layout_rows job)
layout_blocks job h = (
  switch_block 55 56 (codes "NJH") layout_names.0 refl job.njh,
  (
    switch_block 56 57 (codes "NJS") layout_names.1 refl job.njs,
    (
      switch_block 57 58 (codes "BYTES") layout_names.2 refl job.plain_bytes,
      (
        switch_block 58 59 (codes "FP") layout_names.3 refl job.full_path,
        (
          switch_block 59 60 (codes "TS") layout_names.4 refl job.with_time,
          (scan_block job.scan, tt),
        ),
      ),
    ),
  ),
)

deciding_blocks : (job : Job) → IsAllowed job → Blocks 43 (deciding_settings job) (deciding_rows job)
deciding_blocks job h =
    both_blocks 43 13 (tree_settings job) (copied_settings job ++ (changed_settings job ++ (filter_settings job ++ (exclude_settings job ++ (class_settings job ++ (bound_settings job)))))) (tree_rows job) (copied_rows job ++ (changed_rows job ++ (filter_rows job ++ (exclude_rows job ++ (class_rows job ++ (bound_rows job)))))) refl (tree_blocks job h)
    (both_blocks 43 21 (copied_settings job) (changed_settings job ++ (filter_settings job ++ (exclude_settings job ++ (class_settings job ++ (bound_settings job))))) (copied_rows job) (changed_rows job ++ (filter_rows job ++ (exclude_rows job ++ (class_rows job ++ (bound_rows job))))) refl (copied_blocks job h)
    (both_blocks 43 23 (changed_settings job) (filter_settings job ++ (exclude_settings job ++ (class_settings job ++ (bound_settings job)))) (changed_rows job) (filter_rows job ++ (exclude_rows job ++ (class_rows job ++ (bound_rows job)))) refl (changed_blocks job h)
    (both_blocks 43 27 (filter_settings job) (exclude_settings job ++ (class_settings job ++ (bound_settings job))) (filter_rows job) (exclude_rows job ++ (class_rows job ++ (bound_rows job))) refl (filter_blocks job h)
    (both_blocks 43 29 (exclude_settings job) (class_settings job ++ (bound_settings job)) (exclude_rows job) (class_rows job ++ (bound_rows job)) refl (exclude_blocks job h)
    (both_blocks 43 36 (class_settings job) (bound_settings job) (class_rows job) (bound_rows job) refl (class_blocks job h)
    (bound_blocks job h))))))

pub all_blocks : (job : Job) → IsAllowed job → Blocks 72 (settings job) (rows job)
all_blocks job h =
    both_blocks 72 2 (root_written job) (missing_settings job ++ (deciding_settings job ++ (run_settings job ++ (shown_settings job ++ (layout_settings job))))) (root_rows job) (missing_rows job ++ (deciding_rows job ++ (run_rows job ++ (shown_rows job ++ (layout_rows job))))) refl (root_blocks job h)
    (both_blocks 72 4 (missing_settings job) (deciding_settings job ++ (run_settings job ++ (shown_settings job ++ (layout_settings job)))) (missing_rows job) (deciding_rows job ++ (run_rows job ++ (shown_rows job ++ (layout_rows job)))) refl (missing_blocks job h)
    (both_blocks 72 43 (deciding_settings job) (run_settings job ++ (shown_settings job ++ (layout_settings job))) (deciding_rows job) (run_rows job ++ (shown_rows job ++ (layout_rows job))) refl (deciding_blocks job h)
    (both_blocks 72 50 (run_settings job) (shown_settings job ++ (layout_settings job)) (run_rows job) (shown_rows job ++ (layout_rows job)) refl (run_blocks job h)
    (both_blocks 72 55 (shown_settings job) (layout_settings job) (shown_rows job) (layout_rows job) refl (shown_blocks job h)
    (layout_blocks job h)))))
