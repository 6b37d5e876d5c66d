-- The canonical text of a job: the lines of its settings, in the order of the switch table.
use Rattle.std.specs.Prelude.{ℕ, Bool, true, false, List, [], ◌∷◌, ◌++◌, codes}
use Rattle.std.specs.List.{filter, flat_map}
use Rattle.rc_tree.specs.declared.entry.Scan.{Scan}
use Rattle.rc_tree.specs.declared.entry.Scan.TheVariants as scan
use Rattle.rc_job.specs.declared.choices.Moving.{Moving}
use Rattle.rc_job.specs.declared.choices.Moving.TheVariants as moving
use Rattle.rc_job.specs.declared.choices.Sub.{Sub}
use Rattle.rc_job.specs.declared.choices.Sub.TheVariants as sub
use Rattle.rc_job.specs.declared.job.Job.{Job}
use Rattle.rc_job.specs.Values.{Lines, switch_lines, number_lines, other_number_lines, root_lines, files_lines, excludes_lines, copy_lines, directory_lines, attr_lines, changed_lines}

abbrev pub sub_lines : Sub → Lines
sub_lines sub.None = []
sub_lines sub.NonEmpty = codes "/S" ∷ []
sub_lines sub.All = codes "/E" ∷ []

abbrev pub moving_lines : Moving → Lines
moving_lines moving.No = []
moving_lines moving.Files = codes "/MOV" ∷ []
moving_lines moving.All = codes "/MOVE" ∷ []

abbrev pub scan_lines : Scan → Lines
scan_lines scan.Size = []
scan_lines scan.Digest = codes "/SCAN:DIGEST" ∷ []

-- a setting: whether it decides which keys are copied, made, removed or left, and what is written of it
pub record Setting : Type 0 where
  pub deciding : Bool
  pub lines : Lines

abbrev pub settles : Lines → Setting
settles lines = record { deciding = true; lines = lines }

-- one of how a run goes, or of what is reported
abbrev pub reports : Lines → Setting
reports lines = record { deciding = false; lines = lines }

-- the settings of a job in the order of the switch table
abbrev pub root_settings : Job → List Setting
root_settings job =
    settles (root_lines (codes "/SD:") job.source)
    ∷ settles (root_lines (codes "/DD:") job.target)
    ∷ []

abbrev pub missing_settings : Job → List Setting
missing_settings job =
    reports (switch_lines (codes "/NOSD") job.no_source)
    ∷ reports (switch_lines (codes "/NODD") job.no_target)
    ∷ []

abbrev pub tree_settings : Job → List Setting
tree_settings job =
    settles (files_lines (codes "/IF") job.files)
    ∷ settles (sub_lines job.sub)
    ∷ settles (number_lines (codes "/LEV:") job.lev)
    ∷ settles (switch_lines (codes "/PURGE") job.purge)
    ∷ settles (moving_lines job.moving)
    ∷ settles (switch_lines (codes "/CREATE") job.create)
    ∷ []

abbrev pub copied_settings : Job → List Setting
copied_settings job =
    settles (copy_lines job.copy)
    ∷ settles (directory_lines job.dcopy)
    ∷ settles (switch_lines (codes "/SECFIX") job.secfix)
    ∷ settles (switch_lines (codes "/TIMFIX") job.timfix)
    ∷ []

abbrev pub changed_settings : Job → List Setting
changed_settings job =
    settles (changed_lines (codes "/A+:") job.plus)
    ∷ settles (changed_lines (codes "/A-:") job.minus)
    ∷ []

abbrev pub filter_settings : Job → List Setting
filter_settings job =
    settles (switch_lines (codes "/A") job.only_a)
    ∷ settles (switch_lines (codes "/M") job.only_m)
    ∷ settles (attr_lines (codes "/IA:") job.ia)
    ∷ settles (attr_lines (codes "/XA:") job.xa)
    ∷ []

abbrev pub exclude_settings : Job → List Setting
exclude_settings job =
    settles (excludes_lines (codes "/XF") job.xf)
    ∷ settles (excludes_lines (codes "/XD") job.xd)
    ∷ []

abbrev pub class_settings : Job → List Setting
class_settings job =
    settles (switch_lines (codes "/XC") job.xc)
    ∷ settles (switch_lines (codes "/XN") job.xn)
    ∷ settles (switch_lines (codes "/XO") job.xo)
    ∷ settles (switch_lines (codes "/XL") job.xl)
    ∷ settles (switch_lines (codes "/XX") job.xx)
    ∷ settles (switch_lines (codes "/IS") job.with_same)
    ∷ settles (switch_lines (codes "/IT") job.with_tweaked)
    ∷ []

abbrev pub bound_settings : Job → List Setting
bound_settings job =
    settles (number_lines (codes "/MAX:") job.max)
    ∷ settles (number_lines (codes "/MIN:") job.min)
    ∷ settles (number_lines (codes "/MAXAGE:") job.maxage)
    ∷ settles (number_lines (codes "/MINAGE:") job.minage)
    ∷ settles (switch_lines (codes "/FFT") job.fft)
    ∷ settles (switch_lines (codes "/DST") job.dst)
    ∷ settles (switch_lines (codes "/X") job.all_extras)
    ∷ []

abbrev pub run_settings : Job → List Setting
run_settings job =
    reports (switch_lines (codes "/Z") job.strides)
    ∷ reports (other_number_lines (codes "/MT:") 1 job.workers)
    ∷ reports (other_number_lines (codes "/R:") 1000000 job.retries)
    ∷ reports (other_number_lines (codes "/W:") 30 job.wait)
    ∷ reports (switch_lines (codes "/L") job.list_only)
    ∷ []

abbrev pub shown_settings : Job → List Setting
shown_settings job =
    reports (switch_lines (codes "/V") job.verbose)
    ∷ reports (switch_lines (codes "/NFL") job.nfl)
    ∷ reports (switch_lines (codes "/NDL") job.ndl)
    ∷ reports (switch_lines (codes "/NC") job.nc)
    ∷ reports (switch_lines (codes "/NS") job.ns)
    ∷ []

abbrev pub layout_settings : Job → List Setting
layout_settings job =
    reports (switch_lines (codes "/NJH") job.njh)
    ∷ reports (switch_lines (codes "/NJS") job.njs)
    ∷ reports (switch_lines (codes "/BYTES") job.plain_bytes)
    ∷ reports (switch_lines (codes "/FP") job.full_path)
    ∷ reports (switch_lines (codes "/TS") job.with_time)
    ∷ reports (scan_lines job.scan)
    ∷ []

-- those that decide, behind the roots
abbrev pub deciding_settings : Job → List Setting
deciding_settings job =
    tree_settings job ++ (copied_settings job ++ (changed_settings job ++ (filter_settings job
    ++ (exclude_settings job ++ (class_settings job ++ bound_settings job)))))

abbrev pub settings : Job → List Setting
settings job =
    root_settings job ++ (missing_settings job ++ (deciding_settings job
    ++ (run_settings job ++ (shown_settings job ++ layout_settings job))))

-- Texts

-- lines, each with its end
abbrev pub text_of : Lines → List ℕ
text_of lines = flat_map (λ line. line ++ 10 ∷ []) lines

abbrev pub written : List Setting → List ℕ
written settings = flat_map (λ s. text_of s.lines) settings

-- the canonical text of a job
unfoldable pub canonical : Job → List ℕ
canonical job = written (settings job)

-- that of its deciding settings alone
unfoldable pub core : Job → List ℕ
core job = written (filter (λ s. s.deciding) (settings job))
