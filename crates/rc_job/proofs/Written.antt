-- What is written of each setting is a block of its own.
use Rattle.std.proofs.Common.{◌≡◌, ℕ, ◌<◌, ◌≤◌, ◌^◌, ◌+◌, ◌%◌, Bool, true, false, not, ◌||◌, ◌==◌, List, [], ◌∷◌, ◌++◌, map, decimal, codes, Option, Some, None, All, refl, ap, ◌∙◌, if◌then◌else◌, arith}
use Rattle.std.specs.List.{list_all}
use Rattle.std.specs.Option.{IfSome}
use Rattle.std.proofs.lemmas.Bool.{and_from, ne_eqb}
use Rattle.std.proofs.lemmas.Fmt.{decimal_by_steps}
use Rattle.std.proofs.lemmas.List.Elements.{All-head, All-tail}
use Rattle.std.proofs.lemmas.List.Folds.{list_all-append}
use Rattle.rc_tree.specs.declared.attr.Attr.{Attr}
use Rattle.rc_tree.specs.Attr.{compared}
use Rattle.rc_tree.specs.declared.entry.Scan.{Scan}
use Rattle.rc_tree.specs.declared.entry.Scan.TheVariants as scan
use Rattle.rc_wild.specs.Pattern.{pattern_fault}
use Rattle.rc_job.specs.Allowed.{HasAllowedValues, is_root, exclude_fault}
use Rattle.rc_job.specs.Settings.{settings, root_settings, missing_settings, tree_settings, copied_settings, changed_settings, filter_settings, exclude_settings, class_settings, bound_settings, run_settings, shown_settings, layout_settings, deciding_settings, sub_lines, moving_lines, scan_lines}
use Rattle.rc_job.specs.Values.{Lines, begins_with, switch_lines, number_lines, other_number_lines, root_lines, quoted_root, value_text, exclude_text, files_lines, excludes_lines, holds_space, begins_apart, letters_lines, copy_lines, directory_lines, attr_lines, copy_flag_letters, directory_letters, attr_letters, is_dat, is_attributes_alone}
use Rattle.rc_job.specs.declared.choices.Moving.{Moving}
use Rattle.rc_job.specs.declared.choices.Moving.TheVariants as moving
use Rattle.rc_job.specs.declared.choices.Sub.{Sub}
use Rattle.rc_job.specs.declared.choices.Sub.TheVariants as sub
use Rattle.rc_job.specs.declared.flags.CopyFlags.{CopyFlags}
use Rattle.rc_job.specs.declared.flags.DirectoryFlags.{DirectoryFlags}
use Rattle.rc_job.specs.declared.job.Job.{Job}
use Rattle.rc_job.specs.declared.lists.Exclude.{Exclude}
use Rattle.rc_job.proofs.Blocks.{IsBlock, AreBlocks, is_value, both_blocks}
use Rattle.rc_job.proofs.Ends.{is_line}
use Rattle.rc_job.proofs.Letters.{copy_line, directory_line, attr_line}
use Rattle.rc_job.proofs.Plain.{root_plain, pattern_plain, exclude_plain, plain_line, quoted_line, value_is_none}
use Rattle.rc_job.proofs.Table.{IsHead, IsValued, root_names, missing_names, tree_names, copied_names, changed_names, filter_names, exclude_names, class_names, bound_names, run_names, shown_names, layout_names}

-- a switch with its value
with_value : (i : ℕ) (name value : List ℕ) → IsValued i name → is_line value ≡ true → IsHead i (name ++ value)
with_value i name value is line =
    (is.0 value, is.1 value, list_all-append (λ c. not (c == 10)) name value ∙ and_from (is_line name) (is_line value) is.2 line)

alone : (i : ℕ) (name value : List ℕ) → IsValued i name → is_line value ≡ true → IsBlock i ((name ++ value) ∷ [])
alone i name value is line = (with_value i name value is line, refl)

switch_block : (i : ℕ) (name : List ℕ) (on : Bool) → IsHead i name → IsBlock i (switch_lines name on)
switch_block i name true is = (is, refl)
switch_block i name false is = tt

sub_block : (i : ℕ) (s : Sub) → IsHead i (codes "/S") → IsHead i (codes "/E") → IsBlock i (sub_lines s)
sub_block i sub.None one all = tt
sub_block i sub.NonEmpty one all = (one, refl)
sub_block i sub.All one all = (all, refl)

moving_block : (i : ℕ) (m : Moving) → IsHead i (codes "/MOV") → IsHead i (codes "/MOVE") → IsBlock i (moving_lines m)
moving_block i moving.No one all = tt
moving_block i moving.Files one all = (one, refl)
moving_block i moving.All one all = (all, refl)

scan_block : (i : ℕ) (s : Scan) → IsHead i (codes "/SCAN:DIGEST") → IsBlock i (scan_lines s)
scan_block i scan.Size is = tt
scan_block i scan.Digest is = (is, refl)

digit : (n : ℕ) → not ((48 + n) == 10) ≡ true
digit n = ap not (ne_eqb (48 + n) 10 (λ e. omega (arith, e)))

decimal_line : (n : ℕ) → n < 2 ^ 64 → is_line (decimal n) ≡ true
decimal_line n small =
    decimal_by_steps (λ _ ds. is_line ds ≡ true) (λ n _. and_from (not ((48 + n) == 10)) true (digit n) refl)
    (λ n ds _ line. list_all-append (λ c. not (c == 10)) ds ((48 + n % 10) ∷ []) ∙ and_from (is_line ds) (is_line ((48 + n % 10) ∷ [])) line (and_from (not ((48 + n % 10) == 10)) true (digit (n % 10)) refl))
    n small

number_block : (i : ℕ) (name : List ℕ) (o : Option ℕ) → IsValued i name → IfSome o (λ n. n < 2 ^ 64) → IsBlock i (number_lines name o)
number_block i name None is small = tt
number_block i name (Some n) is small = alone i name (decimal n) is (decimal_line n small)

unless : (i : ℕ) (default : Bool) (line : List ℕ) → IsBlock i (line ∷ []) → IsBlock i (if default then [] else line ∷ [])
unless i true line is = tt
unless i false line is = is

other_number_block : (i : ℕ) (name : List ℕ) (default n : ℕ) → IsValued i name → n < 2 ^ 64 → IsBlock i (other_number_lines name default n)
other_number_block i name default n is small = unless i (n == default) (name ++ decimal n) (alone i name (decimal n) is (decimal_line n small))

root_block : (i : ℕ) (name : List ℕ) (o : Option (List ℕ)) → IsValued i name → IfSome o (λ root. is_root root ≡ true) → IsBlock i (root_lines name o)
root_block i name None is allowed = tt
root_block i name (Some root) is allowed =
    alone i name (quoted_root root) is (quoted_line (holds_space root) root (plain_line root (root_plain root allowed)))

value_line : (text : List ℕ) → is_line text ≡ true → is_value (value_text text) ≡ true
value_line text line =
    and_from (not (begins_with 47 (value_text text))) (is_line (value_text text)) (ap not (value_is_none text)) (quoted_line (holds_space text || begins_apart text) text line)

patterns_lines : (values : Lines) → All (λ value. pattern_fault value ≡ None) values → list_all is_value (map value_text values) ≡ true
patterns_lines [] all = refl
patterns_lines (value ∷ values) all =
    and_from (is_value (value_text value)) (list_all is_value (map value_text values))
    (value_line value (plain_line value (pattern_plain value (All-head (λ value. pattern_fault value ≡ None) value values all))))
    (patterns_lines values (All-tail (λ value. pattern_fault value ≡ None) value values all))

files_block : (i : ℕ) (name : List ℕ) (values : Lines) → IsHead i name → All (λ value. pattern_fault value ≡ None) values → IsBlock i (files_lines name values)
files_block i name values is all = (is, patterns_lines values all)

exclude_values : (values : List Exclude) → All (λ value. exclude_fault value ≡ None) values → list_all is_value (map (λ v. value_text (exclude_text v)) values) ≡ true
exclude_values [] all = refl
exclude_values (value ∷ values) all =
    and_from (is_value (value_text (exclude_text value))) (list_all is_value (map (λ v. value_text (exclude_text v)) values))
    (value_line (exclude_text value) (plain_line (exclude_text value) (exclude_plain value (All-head (λ value. exclude_fault value ≡ None) value values all))))
    (exclude_values values (All-tail (λ value. exclude_fault value ≡ None) value values all))

excludes_block : (i : ℕ) (name : List ℕ) (values : List Exclude) → IsHead i name → All (λ value. exclude_fault value ≡ None) values → IsBlock i (excludes_lines name values)
excludes_block i name [] is all = tt
excludes_block i name (value ∷ values) is all = (is, exclude_values (value ∷ values) all)

letters_block : (i : ℕ) (name : List ℕ) (without : Lines) (cs : List ℕ) → IsValued i name → IsBlock i without → is_line cs ≡ true → IsBlock i (letters_lines name without cs)
letters_block i name without [] is none line = none
letters_block i name without (c ∷ cs) is none line = alone i name (c ∷ cs) is line

but_default : (i : ℕ) (default : Bool) (lines : Lines) → IsBlock i lines → IsBlock i (if default then [] else lines)
but_default i true lines is = tt
but_default i false lines is = is

copy_block : (i : ℕ) (f : CopyFlags) → IsValued i (codes "/COPY:") → IsHead i (codes "/NOCOPY") → IsBlock i (copy_lines f)
copy_block i f is none =
    but_default i (is_dat f) _ (letters_block i (codes "/COPY:") (codes "/NOCOPY" ∷ []) (copy_flag_letters f) is (none, refl) (copy_line f))

directory_block : (i : ℕ) (f : DirectoryFlags) → IsValued i (codes "/DCOPY:") → IsHead i (codes "/NODCOPY") → IsBlock i (directory_lines f)
directory_block i f is none =
    but_default i (is_attributes_alone f) _ (letters_block i (codes "/DCOPY:") (codes "/NODCOPY" ∷ []) (directory_letters f) is (none, refl) (directory_line f))

attr_block : (i : ℕ) (name : List ℕ) (a : Attr) → IsValued i name → IsBlock i (attr_lines name a)
attr_block i name a is = letters_block i name [] (attr_letters a) is tt (attr_line a)

-- a bound on a number, where there is one
bounded : (n : Option ℕ) (P Q : ℕ → Type 0) → ((k : ℕ) → P k → Q k) → IfSome n P → IfSome n Q
bounded None P Q from h = h
bounded (Some k) P Q from h = from k h

pub age_small : (age : Option ℕ) → IfSome age (λ n. n < 2 ^ 32) → IfSome age (λ n. n < 2 ^ 64)
age_small age h = bounded age (λ n. n < 2 ^ 32) (λ n. n < 2 ^ 64) (λ k small. omega (arith, small)) h

pub lev_small : (job : Job) → HasAllowedValues job → IfSome job.lev (λ n. n < 2 ^ 64)
lev_small job h = bounded job.lev (λ n. (1 ≤ n) × (n ≤ 65535)) (λ n. n < 2 ^ 64) (λ k range. omega (arith, range.1)) h.lev

pub workers_small : (job : Job) → HasAllowedValues job → job.workers < 2 ^ 64
workers_small job h = omega (arith, h.workers.1)

pub retries_small : (job : Job) → HasAllowedValues job → job.retries < 2 ^ 64
retries_small job h = omega (arith, h.retries)

pub wait_small : (job : Job) → HasAllowedValues job → job.wait < 2 ^ 64
wait_small job h = omega (arith, h.wait)

root_blocks : (job : Job) → HasAllowedValues job → AreBlocks 0 (root_settings job)
root_blocks job h = (
  root_block 0 (codes "/SD:") job.source root_names.0 h.source,
  (root_block 1 (codes "/DD:") job.target root_names.1 h.target, tt),
)

missing_blocks : (job : Job) → HasAllowedValues job → AreBlocks 2 (missing_settings job)
missing_blocks job h = (
  switch_block 2 (codes "/NOSD") job.no_source missing_names.0,
  (switch_block 3 (codes "/NODD") job.no_target missing_names.1, tt),
)

tree_blocks : (job : Job) → HasAllowedValues job → AreBlocks 4 (tree_settings job)
tree_blocks job h = (
  files_block 4 (codes "/IF") job.files tree_names.0 h.files,
  (
    sub_block 5 job.sub tree_names.1 tree_names.2,
    (
      number_block 6 (codes "/LEV:") job.lev tree_names.3 (lev_small job h),
      (
        switch_block 7 (codes "/PURGE") job.purge tree_names.4,
        (
          moving_block 8 job.moving tree_names.5 tree_names.6,
          (switch_block 9 (codes "/CREATE") job.create tree_names.7, tt),
        ),
      ),
    ),
  ),
)

copied_blocks : (job : Job) → HasAllowedValues job → AreBlocks 10 (copied_settings job)
copied_blocks job h = (
  copy_block 10 job.copy copied_names.0 copied_names.1,
  (
    directory_block 11 job.dcopy copied_names.2 copied_names.3,
    (
      switch_block 12 (codes "/SECFIX") job.secfix copied_names.4,
      (switch_block 13 (codes "/TIMFIX") job.timfix copied_names.5, tt),
    ),
  ),
)

changed_blocks : (job : Job) → HasAllowedValues job → AreBlocks 14 (changed_settings job)
changed_blocks job h = (
  attr_block 14 (codes "/A+:") (compared job.plus) changed_names.0,
  (attr_block 15 (codes "/A-:") (compared job.minus) changed_names.1, tt),
)

filter_blocks : (job : Job) → HasAllowedValues job → AreBlocks 16 (filter_settings job)
filter_blocks job h = (
  switch_block 16 (codes "/A") job.only_a filter_names.0,
  (
    switch_block 17 (codes "/M") job.only_m filter_names.1,
    (
      attr_block 18 (codes "/IA:") job.ia filter_names.2,
      (attr_block 19 (codes "/XA:") job.xa filter_names.3, tt),
    ),
  ),
)

exclude_blocks : (job : Job) → HasAllowedValues job → AreBlocks 20 (exclude_settings job)
exclude_blocks job h = (
  excludes_block 20 (codes "/XF") job.xf exclude_names.0 h.xf,
  (excludes_block 21 (codes "/XD") job.xd exclude_names.1 h.xd, tt),
)

class_blocks : (job : Job) → HasAllowedValues job → AreBlocks 22 (class_settings job)
class_blocks job h = (
  switch_block 22 (codes "/XC") job.xc class_names.0,
  (
    switch_block 23 (codes "/XN") job.xn class_names.1,
    (
      switch_block 24 (codes "/XO") job.xo class_names.2,
      (
        switch_block 25 (codes "/XL") job.xl class_names.3,
        (
          switch_block 26 (codes "/XX") job.xx class_names.4,
          (
            switch_block 27 (codes "/IS") job.with_same class_names.5,
            (switch_block 28 (codes "/IT") job.with_tweaked class_names.6, tt),
          ),
        ),
      ),
    ),
  ),
)

bound_blocks : (job : Job) → HasAllowedValues job → AreBlocks 29 (bound_settings job)
bound_blocks job h = (
  number_block 29 (codes "/MAX:") job.max bound_names.0 h.max,
  (
    number_block 30 (codes "/MIN:") job.min bound_names.1 h.min,
    (
      number_block 31 (codes "/MAXAGE:") job.maxage bound_names.2 (age_small job.maxage h.maxage),
      (
        number_block 32 (codes "/MINAGE:") job.minage bound_names.3 (age_small job.minage h.minage),
        (
          switch_block 33 (codes "/FFT") job.fft bound_names.4,
          (
            switch_block 34 (codes "/DST") job.dst bound_names.5,
            (switch_block 35 (codes "/X") job.all_extras bound_names.6, tt),
          ),
        ),
      ),
    ),
  ),
)

run_blocks : (job : Job) → HasAllowedValues job → AreBlocks 36 (run_settings job)
run_blocks job h = (
  switch_block 36 (codes "/Z") job.strides run_names.0,
  (
    other_number_block 37 (codes "/MT:") 1 job.workers run_names.1 (workers_small job h),
    (
      other_number_block 38 (codes "/R:") 1000000 job.retries run_names.2 (retries_small job h),
      (
        other_number_block 39 (codes "/W:") 30 job.wait run_names.3 (wait_small job h),
        (switch_block 40 (codes "/L") job.list_only run_names.4, tt),
      ),
    ),
  ),
)

shown_blocks : (job : Job) → HasAllowedValues job → AreBlocks 41 (shown_settings job)
shown_blocks job h = (
  switch_block 41 (codes "/V") job.verbose shown_names.0,
  (
    switch_block 42 (codes "/NFL") job.nfl shown_names.1,
    (
      switch_block 43 (codes "/NDL") job.ndl shown_names.2,
      (
        switch_block 44 (codes "/NC") job.nc shown_names.3,
        (switch_block 45 (codes "/NS") job.ns shown_names.4, tt),
      ),
    ),
  ),
)

layout_blocks : (job : Job) → HasAllowedValues job → AreBlocks 46 (layout_settings job)
layout_blocks job h = (
  switch_block 46 (codes "/NJH") job.njh layout_names.0,
  (
    switch_block 47 (codes "/NJS") job.njs layout_names.1,
    (
      switch_block 48 (codes "/BYTES") job.plain_bytes layout_names.2,
      (
        switch_block 49 (codes "/FP") job.full_path layout_names.3,
        (
          switch_block 50 (codes "/TS") job.with_time layout_names.4,
          (scan_block 51 job.scan layout_names.5, tt),
        ),
      ),
    ),
  ),
)

deciding_blocks : (job : Job) → HasAllowedValues job → AreBlocks 4 (deciding_settings job)
deciding_blocks job h =
    both_blocks 4 10 (tree_settings job) (copied_settings job ++ (changed_settings job ++ (filter_settings job ++ (exclude_settings job ++ (class_settings job ++ bound_settings job))))) refl (tree_blocks job h)
    (both_blocks 10 14 (copied_settings job) (changed_settings job ++ (filter_settings job ++ (exclude_settings job ++ (class_settings job ++ bound_settings job)))) refl (copied_blocks job h)
    (both_blocks 14 16 (changed_settings job) (filter_settings job ++ (exclude_settings job ++ (class_settings job ++ bound_settings job))) refl (changed_blocks job h)
    (both_blocks 16 20 (filter_settings job) (exclude_settings job ++ (class_settings job ++ bound_settings job)) refl (filter_blocks job h)
    (both_blocks 20 22 (exclude_settings job) (class_settings job ++ bound_settings job) refl (exclude_blocks job h)
    (both_blocks 22 29 (class_settings job) (bound_settings job) refl (class_blocks job h)
    (bound_blocks job h))))))

pub all_blocks : (job : Job) → HasAllowedValues job → AreBlocks 0 (settings job)
all_blocks job h =
    both_blocks 0 2 (root_settings job) (missing_settings job ++ (deciding_settings job ++ (run_settings job ++ (shown_settings job ++ layout_settings job)))) refl (root_blocks job h)
    (both_blocks 2 4 (missing_settings job) (deciding_settings job ++ (run_settings job ++ (shown_settings job ++ layout_settings job))) refl (missing_blocks job h)
    (both_blocks 4 36 (deciding_settings job) (run_settings job ++ (shown_settings job ++ layout_settings job)) refl (deciding_blocks job h)
    (both_blocks 36 41 (run_settings job) (shown_settings job ++ layout_settings job) refl (run_blocks job h)
    (both_blocks 41 46 (shown_settings job) (layout_settings job) refl (shown_blocks job h)
    (layout_blocks job h)))))
