-- The acts that a source file may have.
use Rattle.std.proofs.Common.{◌≡◌, ℕ, Bool, true, false, cond, not, List, Option, Some, None, refl}
use Rattle.rc_tree.specs.declared.attr.Kind.TheVariants.{File}
use Rattle.rc_class.specs.declared.class.Class.{Class}
use Rattle.rc_class.specs.declared.decision.Act.{Act}
use Rattle.rc_class.specs.declared.decision.Act.TheVariants as act
use Rattle.rc_class.specs.declared.decision.Reason.{Reason}
use Rattle.rc_class.specs.declared.decision.Reason.TheVariants as reason
use Rattle.rc_class.specs.declared.facts.Facts.{Facts}
use Rattle.rc_class.specs.Class.{is_mismatched}
use Rattle.rc_class.specs.Sides.{may_act}
use Rattle.rc_job.specs.declared.job.Job.{Job}
use Rattle.rc_filter.specs.Acts.{class_act, is_excluded_class, is_mended, kept_for, mended, unless}
use Rattle.rc_filter.specs.Filters.{is_wrong_age, is_wrong_attr, is_wrong_size}
use Rattle.rc_filter.specs.Matching.{is_excluded_file, is_named}

-- a file may be kept for this
abbrev pub keeps_file : Reason → Bool
keeps_file reason.Empty = false
keeps_file reason.Same = false
keeps_file _ = true

-- what holds of no reason, and of each for which a file may be kept, holds of why it is kept
of_kept_for : (Q : Option Reason → Type 0) → Q None → ((why : Reason) → keeps_file why ≡ true → Q (Some why)) → (named excluded attr size age left : Bool) → Q (cond (not named) (Some reason.NotNamed) (cond excluded (Some reason.Excluded) (cond attr (Some reason.Attr) (cond size (Some reason.Size) (cond age (Some reason.Age) (cond left (Some reason.Class) None))))))
of_kept_for Q none some false excluded attr size age left = some reason.NotNamed refl
of_kept_for Q none some true true attr size age left = some reason.Excluded refl
of_kept_for Q none some true false true size age left = some reason.Attr refl
of_kept_for Q none some true false false true age left = some reason.Size refl
of_kept_for Q none some true false false false true left = some reason.Age refl
of_kept_for Q none some true false false false false true = some reason.Class refl
of_kept_for Q none some true false false false false false = none

-- what holds of a fix and of a keep holds of that keep where it may be mended
of_kept : (P : Act → Type 0) → P act.Fix → (mends : Bool) (why : Reason) → P (act.Keep why) → P (mended mends (act.Keep why))
of_kept P fix true reason.Class keep = fix
of_kept P fix false reason.Class keep = keep
of_kept P fix mends reason.NotNamed keep = keep
of_kept P fix mends reason.Excluded keep = keep
of_kept P fix mends reason.Attr keep = keep
of_kept P fix mends reason.Size keep = keep
of_kept P fix mends reason.Age keep = keep
of_kept P fix mends reason.Empty keep = keep
of_kept P fix mends reason.Same keep = keep

of_either : (P : Act → Type 0) (mismatched : Bool) (other : Act) → P act.Mismatch → P other → P (cond mismatched act.Mismatch other)
of_either P true other mismatch holds = mismatch
of_either P false other mismatch holds = holds

-- what holds of all acts that a source file may have holds of its act
pub of_class_act : (P : Act → Type 0) → P act.Mismatch → P act.Copy → P act.Fix → ((why : Reason) → keeps_file why ≡ true → P (act.Keep why)) → (job : Job) (moment : ℕ) (key : List (List ℕ)) (source : Facts) (class : Class) → P (class_act job moment key source class)
of_class_act P mismatch copy fix keep job moment key source class =
    of_either P (is_mismatched class) (mended (is_mended job class) (unless (kept_for job moment key source class) act.Copy)) mismatch
    (of_kept_for (λ kept. P (mended (is_mended job class) (unless kept act.Copy))) copy (λ why is. of_kept P fix (is_mended job class) why (keep why is))
    (is_named job key) (is_excluded_file job key) (is_wrong_attr job source.attr) (is_wrong_size job source.size) (is_wrong_age job moment source.written) (is_excluded_class job class))

-- a file of a class that may be copied, mended and kept
pub both_sides_fit : (c : Class) → may_act c File act.Copy ≡ true → may_act c File act.Fix ≡ true → not (is_mismatched c) ≡ true → (mends : Bool) (kept : Option Reason) → may_act c File (mended mends (unless kept act.Copy)) ≡ true
both_sides_fit c copied fixed left mends None = copied
both_sides_fit c copied fixed left mends (Some why) = of_kept (λ does. may_act c File does ≡ true) fixed mends why left

-- and one of a class that may not be mended
pub one_side_fits : (c : Class) → may_act c File act.Copy ≡ true → not (is_mismatched c) ≡ true → (kept : Option Reason) → may_act c File (mended false (unless kept act.Copy)) ≡ true
one_side_fits c copied left None = copied
one_side_fits c copied left (Some reason.NotNamed) = left
one_side_fits c copied left (Some reason.Excluded) = left
one_side_fits c copied left (Some reason.Attr) = left
one_side_fits c copied left (Some reason.Size) = left
one_side_fits c copied left (Some reason.Age) = left
one_side_fits c copied left (Some reason.Class) = left
one_side_fits c copied left (Some reason.Empty) = left
one_side_fits c copied left (Some reason.Same) = left
