-- How a clock waits while a run goes on, step by step.
use Rattle.std.proofs.Common.{◌≡◌, ◌≤◌, ℕ, ◌+◌, Bool, true, false, ◌==◌, if◌then◌else◌, List, refl, sym, ap, subst, ◌∙◌, ◌⊎◌, inl, inr, arith}
use Rattle.std.specs.Prelude.{Result, Ok, Err, IfOk}
use Rattle.rc_job.specs.declared.job.Job.{Job}
use Rattle.rc_copy.specs.declared.err.CopyErr.{CopyErr}
use Rattle.rc_copy.specs.declared.err.CopyErr.TheVariants as copy_err
use Rattle.rc_copy.specs.Copying.{copy_cause}
use Rattle.rc_finish.specs.declared.err.FinishErr.{FinishErr}
use Rattle.rc_finish.specs.declared.err.FinishErr.TheVariants as finish_err
use Rattle.rc_finish.specs.Calls.{finish_cause}
use Rattle.rc_volume.specs.declared.site.Part.{Part}
use Rattle.rc_volume.specs.declared.site.Part.TheVariants as part
use Rattle.rc_volume.specs.declared.site.Side.{Side}
use Rattle.rc_volume.specs.declared.site.Side.TheVariants as side
use Rattle.rc_volume.specs.Faults.{Cause, Counts, RoseBy, free, on, part_for}
use Rattle.rc_volume.specs.Waits.{Paused, Waits, last_fault}
use Rattle.rc_volume.proofs.WaitLemmas.{waits_never, waits_then}
use Rattle.rc_run.specs.Answers.{uncopied, unfinished}
use Rattle.rc_volume.specs.Site.{Seen}
use Rattle.rc_run.specs.declared.outcome.Outcome.{Outcome}
use Rattle.rc_run.specs.Outcome.{WaitsFor, Ending, cause_of, ending, failed, finished, listed, out_of_memory, refused, tries_at, unreported, unstored, at_listing}

-- a fault is one failure at least
one_failed : (at : Part) (n : ℕ) (before after : Part → ℕ) → 1 ≤ n → Counts (on at n) before after → (part : Part) → RoseBy (last_fault (on at n) part) (before part) (after part)
one_failed part.Source n before after some rose part.Source = omega (arith, some, rose.0)
one_failed part.Source n before after some rose part.Target = omega (arith, rose.1 part.Target)
one_failed part.Source n before after some rose part.Record = omega (arith, rose.1 part.Record)
one_failed part.Target n before after some rose part.Source = omega (arith, rose.1 part.Source)
one_failed part.Target n before after some rose part.Target = omega (arith, some, rose.0)
one_failed part.Target n before after some rose part.Record = omega (arith, rose.1 part.Record)
one_failed part.Record n before after some rose part.Source = omega (arith, rose.1 part.Source)
one_failed part.Record n before after some rose part.Target = omega (arith, rose.1 part.Target)
one_failed part.Record n before after some rose part.Record = omega (arith, some, rose.0)

some_tries : (retries : ℕ) (is : Bool) → 1 ≤ (if is then retries + 1 else 1)
some_tries retries true = omega arith
some_tries retries false = omega arith

-- a step without a pause
pub unwaited : (seconds retries : ℕ) (e : Ending) (before after : Part → ℕ) (p : Paused) → Counts (cause_of retries e) before after → Waits seconds (cause_of retries e) before after p p
unwaited seconds retries (refused step) before after p counts = waits_never _ _ _ _ _ (λ part. omega (arith, counts part))
unwaited seconds retries (failed step at) before after p counts = waits_never _ _ _ _ _ (one_failed at (tries_at retries step) before after (some_tries retries (step == at_listing)) counts)
unwaited seconds retries unstored before after p counts = waits_never _ _ _ _ _ (λ part. omega (arith, counts part))
unwaited seconds retries unreported before after p counts = waits_never _ _ _ _ _ (λ part. omega (arith, counts part))
unwaited seconds retries finished before after p counts = waits_never _ _ _ _ _ (λ part. omega (arith, counts part))
unwaited seconds retries listed before after p counts = waits_never _ _ _ _ _ (λ part. omega (arith, counts part))
unwaited seconds retries out_of_memory before after p counts = waits_never _ _ _ _ _ (λ part. omega (arith, counts part))

-- a step without a pause that did not fail
pub unwaited_free : (seconds : ℕ) (before after : Part → ℕ) (p : Paused) → Counts free before after → Waits seconds free before after p p
unwaited_free seconds before after p counts = waits_never _ _ _ _ _ (λ part. omega (arith, counts part))

-- the pauses of two steps, the first of which did not fail
pub waits_on_then : (seconds : ℕ) (cause : Cause) (before mid after : Part → ℕ) (p q r : Paused) → Waits seconds free before mid p q → Waits seconds cause mid after q r → Waits seconds cause before after p r
waits_on_then seconds cause before mid after p q r first second = waits_then seconds free cause before mid after p q r (λ part. refl) first second

-- a pass that failed, in the words of its run
pub pass_waits : (seconds retries : ℕ) (e : FinishErr) (before after : Part → ℕ) (p q : Paused) → Waits seconds (finish_cause {T = Unit {0}} retries (Err e)) before after p q → Waits seconds (cause_of retries (ending (unfinished e))) before after p q
pass_waits seconds retries (finish_err.SiteFault side.Source) before after p q waits = record { times = waits.times; failed = by; is = waits.is }
  where
    by : (side : Side) → RoseBy (waits.times side + last_fault (on part.Source 1) (part_for side)) (before (part_for side)) (after (part_for side))
    by side.Source = waits.failed side.Source
    by side.Target = waits.failed side.Target
pass_waits seconds retries (finish_err.SiteFault side.Target) before after p q waits = record { times = waits.times; failed = by; is = waits.is }
  where
    by : (side : Side) → RoseBy (waits.times side + last_fault (on part.Target 1) (part_for side)) (before (part_for side)) (after (part_for side))
    by side.Source = waits.failed side.Source
    by side.Target = waits.failed side.Target
pass_waits seconds retries finish_err.NoMemory before after p q waits = waits

-- a copy that failed
pub copy_waits : (seconds retries : ℕ) (e : CopyErr) (before after : Part → ℕ) (p : Paused) → Counts (copy_cause {T = Unit {0}} (Err e)) before after → Waits seconds (cause_of retries (ending (uncopied e))) before after p p
copy_waits seconds retries (copy_err.Failed side) before after p counts = waits_never _ _ _ _ _ (one_failed (part_for side) 1 before after (omega arith) counts)
copy_waits seconds retries copy_err.NoMemory before after p counts = unwaited_free seconds before after p counts
