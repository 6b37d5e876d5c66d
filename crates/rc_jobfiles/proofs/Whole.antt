-- A job that words ask for has no refusal.
use Rattle.std.proofs.Common.{◌≡◌, ℕ, Bool, true, false, List, [], Option, None, Some, Result, Ok, Err, map, refl, sym}
use Rattle.std.specs.Prelude.{IfOk, is_some, if◌then◌else◌}
use Rattle.rc_job.specs.declared.job.Job.{Job}
use Rattle.rc_words.specs.Meaning.{words_of}
use Rattle.rc_words.specs.declared.setting.Placed.{Placed}
use Rattle.rc_jobfiles.specs.declared.job_err.JobErr.{JobErr}
use Rattle.rc_jobfiles.specs.declared.resolving.Resolved.{Resolved}
use Rattle.rc_jobfiles.specs.Ask.{as_word}
use Rattle.rc_jobfiles.specs.Merge.{given, has}
use Rattle.rc_jobfiles.specs.Refusal.{IsWhole, excludes, is_too_long, lacks, refusal_of, roots_overlap}
use Rattle.rc_jobfiles.specs.Resolving.{Store, accepted, accepted_by, file_gathered, gathered, job_gathered, resolved, resolved_by, save_in, settings_by}

-- Without a refusal each of its causes is away

no_cause : (a b c d e : Bool) → ◌≡◌ {A = Option ℕ} (if a then Some 9 else if b then Some 10 else if c then Some 11 else if d then Some 12 else if e then Some 15 else None) None → (a ≡ false) × (b ≡ false) × (c ≡ false) × (d ≡ false) × (e ≡ false)
no_cause true b c d e h = cc
no_cause false true c d e h = cc
no_cause false false true d e h = cc
no_cause false false false true e h = cc
no_cause false false false false true h = cc
no_cause false false false false false h = (refl, refl, refl, refl, refl)

pub is_whole : (quit : Bool) (job : Job) → refusal_of quit job ≡ None → IsWhole quit job
unfolding refusal_of
is_whole quit job h =
    let t = no_cause (excludes job) (lacks job.source job.no_source quit) (lacks job.target job.no_target quit) (roots_overlap job.source job.target) (is_too_long job) h in
    record { source = t.1; target = t.2; apart = t.3; moved = t.0; short = t.4 }

pub is_given : (root : Option (List ℕ)) (left_out : Bool) → lacks root left_out false ≡ false → is_some root ≡ true
is_given None true h = cc
is_given None false h = cc
is_given (Some root) left_out h = refl

abbrev IsRooted : Resolved → Type 0
IsRooted r = r.quit ≡ false → (is_some r.job.source ≡ true) × (is_some r.job.target ≡ true)

rooted : (quit : Bool) (job : Job) → IsWhole quit job → quit ≡ false → (is_some job.source ≡ true) × (is_some job.target ≡ true)
rooted true job is e = cc
rooted false job is e = (is_given job.source job.no_source is.source, is_given job.target job.no_target is.target)

by_refusal : (kind : Option ℕ) (job : Job) (save : Option (List ℕ)) (quit dropping : Bool) → kind ≡ refusal_of quit job → IfOk (accepted_by kind job save quit dropping) (λ r. IsWhole r.quit r.job) × IfOk (accepted_by kind job save quit dropping) IsRooted
by_refusal None job save quit dropping e =
    let is = is_whole quit job (sym e) in
    (is, rooted quit job is)
by_refusal (Some kind) job save quit dropping e = (tt, tt)

by_job : (settings : List Placed) (read : Result Job JobErr) → IfOk (accepted settings read) (λ r. IsWhole r.quit r.job) × IfOk (accepted settings read) IsRooted
by_job settings (Err e) = (tt, tt)
by_job settings (Ok job) =
    by_refusal (refusal_of (has 70 settings) job) job (save_in (given 69 settings)) (has 70 settings) (has 71 settings) refl

by_settings : (store : Store) (read : Result (List Placed) JobErr) → IfOk (resolved_by store read) (λ r. IsWhole r.quit r.job) × IfOk (resolved_by store read) IsRooted
by_settings store (Err e) = (tt, tt)
by_settings store (Ok settings) = by_job settings (job_gathered (gathered (file_gathered 8 store [] []) settings 0))

pub resolved_is_whole : (texts : List (List ℕ)) (store : Store) → IfOk (resolved texts store) (λ r. IsWhole r.quit r.job) × IfOk (resolved texts store) IsRooted
unfolding resolved
resolved_is_whole texts store = by_settings store (settings_by [] (words_of false (map as_word texts)))
