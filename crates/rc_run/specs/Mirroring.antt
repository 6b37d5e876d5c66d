-- What a run says of a job that its words ask for.
use Rattle.std.specs.Prelude.{◌≡◌, ℕ, ◌+◌, ◌≤◌, Bool, true, false, List}
use Rattle.rc_copy.specs.Copying.{copies_any}
use Rattle.rc_job.specs.declared.job.Job.{Job}
use Rattle.rc_volume.specs.Site.{Seen}
use Rattle.rc_volume.specs.Waits.{Paused}
use Rattle.rc_run.specs.declared.outcome.Outcome.{Outcome}
use Rattle.rc_run.specs.Answers.{Answers, IsNamed, IsOpened, IsSilentBefore, RunLeaves, Sends, bits_in, copying_of}
use Rattle.rc_run.specs.Goal.{items_at, read_by}
use Rattle.rc_run.specs.Outcome.{Causes, FailedBy, IfReported, WaitsFor, at_report, ending, first_step}
use Rattle.rc_run.specs.Under.{IsLasting, ReleasesLast}
use Rattle.rc_run.specs.Words.{binding_of}

-- of a site, whose trees it may tell, of what was sent to a sink, and of how long was waited
pub record Mirrors (tells sink_tells : Bool) (job : Job) (moment : ℕ) (outcome : Outcome) (old new : Seen) (sent_old sent_new : List ℕ) (waited_old waited_new : Paused) : Type 0 where
  -- what is answered, and why
  pub answers : Answers tells job old.told moment outcome
  pub cause : Causes job.retries outcome old new
  pub tried :
      tells ≡ true → copies_any (items_at job old.told moment) ≡ false → FailedBy (job.retries + 1) outcome old new
  -- what becomes of the trees
  pub leaves : tells ≡ true → RunLeaves job moment old.told new.told outcome
  -- where an item changes a side, a stop behind all changes leaves of it what reads, and nothing else
  pub lasting :
      tells ≡ true → job.list_only ≡ false → at_report ≤ first_step (ending outcome) →
      IsLasting (items_at job old.told moment) new
  -- the source is changed behind the target alone, and the record is not touched
  pub in_order : tells ≡ true → ReleasesLast (copying_of job moment) (items_at job old.told moment) old new
  -- under `/L` no changing call is made
  pub listed : tells ≡ true → job.list_only ≡ true → new.log ≡ old.log
  pub opened : tells ≡ true → IsOpened outcome (read_by job moment old.told) old.opened new.opened
  pub bound : IsNamed outcome (binding_of job moment) old.bound new.bound
  -- what is reported
  pub bits : tells ≡ true → IfReported outcome (λ bits. bits ≡ bits_in job old.told moment)
  pub sends : tells ≡ true → sink_tells ≡ true → Sends job moment old.told outcome sent_old sent_new
  pub reported : tells ≡ true → IsSilentBefore sent_old sent_new job moment old.told new.told
  -- it waits before a retry alone, the seconds of the job
  pub waits : WaitsFor job.wait job.retries outcome old new waited_old waited_new
  pub no_pause : job.retries ≡ 0 → waited_new ≡ waited_old
