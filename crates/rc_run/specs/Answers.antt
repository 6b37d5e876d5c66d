-- What the answer of a run says of its job and of the site, at its start and at its end.
use Rattle.std.specs.Prelude.{◌≡◌, ◌⊎◌, ℕ, ◌≤◌, ◌<◌, Bool, true, false, List, [], ◌∷◌, ◌++◌, ◌||◌, Option, Some, None, option_map, Result, Ok, Err, if◌then◌else◌}
use Rattle.rc_class.specs.declared.plan.Plan.{Plan}
use Rattle.rc_job.specs.declared.job.Job.{Job}
use Rattle.rc_jobfiles.specs.declared.resolving.Resolved.{Resolved}
use Rattle.rc_copy.specs.declared.copying.Copying.{Copying}
use Rattle.rc_copy.specs.declared.err.CopyErr.{CopyErr}
use Rattle.rc_copy.specs.declared.err.CopyErr.TheVariants as copy_err
use Rattle.rc_finish.specs.declared.err.FinishErr.{FinishErr}
use Rattle.rc_finish.specs.declared.err.FinishErr.TheVariants as finish_err
use Rattle.rc_filter.specs.Acts.{copies_bytes, rules_of}
use Rattle.rc_plan.specs.declared.plan.PlanErr.{PlanErr}
use Rattle.rc_plan.specs.declared.plan.PlanErr.TheVariants as plan_err
use Rattle.rc_plan.specs.Plan.{limit_in, start_in}
use Rattle.rc_report.specs.Report.{report_of}
use Rattle.rc_report.specs.Totals.{bits_of, totals_of}
use Rattle.rc_volume.specs.declared.binding.Binding.{Binding}
use Rattle.rc_volume.specs.declared.want.Want.{Want}
use Rattle.rc_volume.specs.Site.{Told}
use Rattle.rc_volume.specs.Streams.{AppendsFront}
use Rattle.rc_run.specs.declared.outcome.Outcome.{Outcome}
use Rattle.rc_run.specs.declared.outcome.Outcome.TheVariants.{Done, Listed, JobFault, NotYet, ListFault, TooMany, TooBig, SiteFault, NoMemory}
use Rattle.rc_run.specs.declared.outcome.Unbuilt.TheVariants as unbuilt
use Rattle.rc_run.specs.Goal.{IsMirrored, items_at}
use Rattle.rc_run.specs.Outcome.{IfDone, IsOrNoMemory, at_copies, at_limits, at_record, at_report, at_roots, at_words, ending, finished, first_step, is_reported, last_step, listed, refused}
use Rattle.rc_run.specs.Under.{AreReleasing, AreUnderWay}

-- At its start

abbrev pub is_empty : {A : Type 0} → List A → Bool
is_empty [] = true
is_empty (x ∷ xs) = false

-- how it is answered that there is no plan
abbrev pub unplanned : PlanErr → Outcome
unplanned (plan_err.ListFault side) = ListFault side
unplanned (plan_err.TooMany side count) = TooMany side count
unplanned (plan_err.TooBig path size) = TooBig path size
unplanned plan_err.NoMemory = NoMemory

-- how it is answered that a pass ended in a fault
abbrev pub unfinished : FinishErr → Outcome
unfinished (finish_err.SiteFault side) = SiteFault side
unfinished finish_err.NoMemory = NoMemory

abbrev pub uncopied : CopyErr → Outcome
uncopied (copy_err.Failed side) = SiteFault side
uncopied copy_err.NoMemory = NoMemory

-- why a site is refused for a job that began at this moment: for its record, where that is read, or for a limit
abbrev pub site_refusal : Job → Told → ℕ → Option Outcome
site_refusal job told moment =
    if job.list_only || is_empty told.notes
    then option_map unplanned (limit_in job told moment)
    else Some (NotYet unbuilt.Record)

-- why a run is refused; nothing where it is not, and where its job is only shown
abbrev pub start_refusal : Result Resolved Outcome → Told → ℕ → Option Outcome
start_refusal (Ok accepted) told moment = if accepted.quit then None else site_refusal accepted.job told moment
start_refusal (Err refusal) told moment = Some refusal

-- a plan is listed exactly where the job says so
pub record IsInMode (job : Job) (outcome : Outcome) : Type 0 where
  pub listed : ending outcome ≡ listed → job.list_only ≡ true
  pub done : ending outcome ≡ finished → job.list_only ≡ false

-- what an answer to words that are accepted says of the site, where it tells
pub record Answers (tells : Bool) (job : Job) (told : Told) (moment : ℕ) (outcome : Outcome) : Type 0 where
  -- it is no refusal of words; the store may fail that is to keep the job
  pub behind_words : (at_words < last_step (ending outcome)) ⊎ (outcome ≡ JobFault)
  -- a refusal is that of the site
  pub refusal : (step : ℕ) → ending outcome ≡ refused step → tells ≡ true → site_refusal job told moment ≡ Some outcome
  -- the plan is listed, or carried out, as the job says
  pub mode : IsInMode job outcome
  -- what comes behind the look at the record or at the limits says that they were accepted
  pub no_record : at_record < first_step (ending outcome) → job.list_only ≡ false → tells ≡ true → told.notes ≡ []
  pub within : at_limits < first_step (ending outcome) → tells ≡ true → limit_in job told moment ≡ None

-- what a run for which nothing failed answers, but for want of memory: its refusal, or that it is done or listed
abbrev pub IsExpected : Option Outcome → Outcome → Type 0
IsExpected None outcome = (is_reported (ending outcome) ≡ true) ⊎ (outcome ≡ NoMemory)
IsExpected (Some refusal) outcome = IsOrNoMemory refusal outcome

-- At its end

-- how a run ends whose report was written: its plan was listed alone, or carried out
abbrev pub reported : Job → ℕ → ℕ → Outcome
reported job bits moment = if job.list_only then Listed bits else Done bits moment

-- what all items of a job have in common
abbrev pub copying_of : Job → ℕ → Copying
copying_of job moment = record { rules = rules_of job; with_bytes = copies_bytes job; moment = moment }

-- what a run leaves of a site that tells, whatever it answers
pub record RunLeaves (job : Job) (moment : ℕ) (start end : Told) (outcome : Outcome) : Type 0 where
  -- behind the copies both trees are the goals
  pub mirrored : job.list_only ≡ false → at_report ≤ first_step (ending outcome) → IsMirrored (start_in job start) moment end
  -- under `/L` all is as it was
  pub listed : job.list_only ≡ true → end ≡ start
  -- before them all is as it was
  pub unchanged : last_step (ending outcome) < at_copies → end ≡ start
  -- and else each key of the target is as it was, or its item has begun to change it
  pub between : AreUnderWay (copying_of job moment) (items_at job start moment) start end.target
  -- and each key of the source is as it was, or has its goal
  pub releasing : AreReleasing (items_at job start moment) start end.source
  pub notes : end.notes ≡ start.notes

-- what readers were made for when a run has ended: as before, or these wants behind it, as at Done
abbrev pub IsOpened : Outcome → List Want → List Want → List Want → Type 0
IsOpened outcome wants old new =
    ((new ≡ old) ⊎ (new ≡ old ++ wants)) × IfDone outcome (λ _ _. new ≡ old ++ wants)

-- how roots were named when a run has ended: as before, or once more and so, as behind that step
abbrev pub IsNamed : Outcome → Binding → List Binding → List Binding → Type 0
IsNamed outcome binding old new =
    ((new ≡ old) ⊎ (new ≡ old ++ binding ∷ []))
    × (at_roots < first_step (ending outcome) → new ≡ old ++ binding ∷ [])

-- nothing was sent, unless both trees are the goals by now, or the plan is listed alone
abbrev pub IsSilentBefore : List ℕ → List ℕ → Job → ℕ → Told → Told → Type 0
IsSilentBefore received_old received_new job moment start end =
    (received_new ≡ received_old) ⊎ IsMirrored (start_in job start) moment end ⊎ (job.list_only ≡ true)

-- the report of a plan, and its bits, where no file was given up
abbrev pub report_by : Job → Plan → List ℕ
report_by job plan = report_of job plan.moment plan.items []

abbrev pub bits_by : Plan → ℕ
bits_by plan = bits_of (totals_of plan.items [])

-- and those of a job on what a site tells
abbrev pub report_in : Job → Told → ℕ → List ℕ
report_in job told moment = report_of job moment (items_at job told moment) []

abbrev pub bits_in : Job → Told → ℕ → ℕ
bits_in job told moment = bits_of (totals_of (items_at job told moment) [])

-- what a run sends to its report, where site and sink tell
pub record Sends (job : Job) (moment : ℕ) (start : Told) (outcome : Outcome) (old new : List ℕ) : Type 0 where
  -- at Done and at Listed the whole report
  pub whole : is_reported (ending outcome) ≡ true → new ≡ old ++ report_in job start moment
  -- and whatever is answered a front of it
  pub front : AppendsFront old (report_in job start moment) new
