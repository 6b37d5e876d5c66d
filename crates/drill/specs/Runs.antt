-- How a run ends: by the rules, for want of memory, or where calls of its site fail.
use Rattle.std.specs.Prelude.{◌≡◌, ◌≢◌, ◌⊎◌, ℕ, true, false, List, [], ◌∷◌, Some, None, Ok}
use Rattle.rc_job.specs.declared.job.Job.{Job}
use Rattle.rc_jobfiles.specs.declared.resolving.Resolved.{Resolved}
use Rattle.rc_volume.specs.declared.site.Part.{Part}
use Rattle.rc_volume.specs.Site.{Told}
use Rattle.rc_volume.specs.Streams.{AppendsFront}
use Rattle.rc_volume.specs.Waits.{Paused}
use Rattle.rc_mem.specs.MemSite.{IsFreshSite}
use Rattle.rc_failing.specs.declared.named.Named.{Named}
use Rattle.rc_failing.specs.declared.site.FailingSite.{FailingSite}
use Rattle.rc_failing.specs.Failing.{failures_in, seen_failing}
use Rattle.rc_failing.specs.Named.{NamesCall, NamesNothing, NamesReads}
use Rattle.rc_tree.specs.Path.{key_of}
use Rattle.rc_run.specs.declared.outcome.Outcome.{Outcome}
use Rattle.rc_run.specs.declared.outcome.Outcome.TheVariants.{Done, JobFault, Listed, NoMemory, SinkFault}
use Rattle.rc_run.specs.Answers.{IsSilentBefore, RunLeaves, bits_in, report_in, site_refusal, start_refusal}
use Rattle.rc_run.specs.Goal.{IsMirrored}
use Rattle.rc_run.specs.Keeping.{Keeps, ShowsJob, job_bytes}
use Rattle.rc_run.specs.Mirroring.{Mirrors}
use Rattle.rc_run.specs.Outcome.{IfDone, IsOrNoMemory}
use Rattle.rc_run.specs.Words.{IfRefused, IfRun, IfShown, asked}
use Rattle.rc_plan.specs.Plan.{start_in}
use Rattle.rc_sitetext.specs.SiteText.{Jobs}
use Rattle.rc_drillwords.specs.declared.reading.FailingCall.{FailingCall}
use Rattle.rc_drillwords.specs.declared.reading.FailingReads.{FailingReads}

-- what a run begins on: a site, the moment of its clock, and job files
pub record Start : Type 0 where
  pub told : Told
  pub moment : ℕ
  pub jobs : Jobs

-- how it ended: what it reported, its outcome, and what its site and its job files are then
pub record End : Type 0 where
  pub report : List ℕ
  pub outcome : Outcome
  pub now : Told
  pub jobs : Jobs

-- Where nothing fails

-- refused for its words, a job file or its site, with nothing reported and nothing changed
pub record IsRefused (words : List (List ℕ)) (start : Start) (end : End) : Type 0 where
  pub refused : start_refusal (asked words start.jobs) start.told start.moment ≡ Some end.outcome
  pub report : end.report ≡ []
  pub now : end.now ≡ start.told

-- words ask for a job that is run, and the site is not refused for it
pub record Runs (words : List (List ℕ)) (start : Start) (job : Job) : Type 0 where
  pub accepted : Resolved
  pub asks : asked words start.jobs ≡ Ok accepted
  pub is : accepted.job ≡ job
  pub runs : accepted.quit ≡ false
  pub site : site_refusal job start.told start.moment ≡ None

-- done as the rules want it: the report and the bits are those of the decided keys, and the trees are the goals
pub record IsCarriedOut (words : List (List ℕ)) (start : Start) (end : End) : Type 0 where
  pub job : Job
  pub asks : Runs words start job
  pub changes : job.list_only ≡ false
  pub outcome : end.outcome ≡ Done (bits_in job start.told start.moment) start.moment
  pub report : end.report ≡ report_in job start.told start.moment
  pub now : IsMirrored (start_in job start.told) start.moment end.now

-- listed under `/L`: the same report and bits, and nothing changed
pub record IsListed (words : List (List ℕ)) (start : Start) (end : End) : Type 0 where
  pub job : Job
  pub asks : Runs words start job
  pub lists : job.list_only ≡ true
  pub outcome : end.outcome ≡ Listed (bits_in job start.told start.moment)
  pub report : end.report ≡ report_in job start.told start.moment
  pub now : end.now ≡ start.told

-- shown under `/QUIT`: the text of the job in place of a report, and nothing changed
pub record IsShown (words : List (List ℕ)) (start : Start) (end : End) : Type 0 where
  pub accepted : Resolved
  pub asks : asked words start.jobs ≡ Ok accepted
  pub quits : accepted.quit ≡ true
  pub outcome : end.outcome ≡ Listed 0
  pub report : end.report ≡ job_bytes accepted.job
  pub now : end.now ≡ start.told

-- how a run of these words ends by the rules
abbrev pub IsRun : List (List ℕ) → Start → End → Type 0
IsRun words start end =
    IsRefused words start end ⊎ IsCarriedOut words start end ⊎ IsListed words start end ⊎ IsShown words start end

-- what a run of a job leaves that memory stopped: each key of the target as it was, or as its item has begun to change it,
-- and each key of the source as it was or with its goal; all else as it was; and nothing reported before both trees are the
-- goals, unless the plan is listed alone
pub record IsCutIn (job : Job) (start : Start) (end : End) : Type 0 where
  pub leaves : RunLeaves job start.moment start.told end.now NoMemory
  pub report : AppendsFront [] (report_in job start.told start.moment) end.report
  pub reported : IsSilentBefore [] end.report job start.moment start.told end.now

-- what is left of a job that was to be shown: a front of its text was sent, and nothing changed
pub record IsCutShown (job : Job) (start : Start) (end : End) : Type 0 where
  pub report : AppendsFront [] (job_bytes job) end.report
  pub now : end.now ≡ start.told

-- ended for want of memory; for words that are refused with nothing reported and nothing changed
pub record IsCutShort (words : List (List ℕ)) (start : Start) (end : End) : Type 0 where
  pub outcome : end.outcome ≡ NoMemory
  pub refused : IfRefused (asked words start.jobs) (λ refusal. (end.report ≡ []) × (end.now ≡ start.told))
  pub shown : IfShown (asked words start.jobs) (λ job. IsCutShown job start end)
  pub run : IfRun (asked words start.jobs) (λ job. IsCutIn job start end)

-- how a run ends of which nothing fails: by the rules, or for want of memory; `/SAVE` keeps its job
pub record Ends (words : List (List ℕ)) (start : Start) (end : End) : Type 0 where
  pub ends : IsRun words start end ⊎ IsCutShort words start end
  pub kept : Keeps (asked words start.jobs) end.outcome start.jobs end.jobs

-- Where calls fail

-- all of these calls are named, one after another
abbrev pub NamesCalls : List FailingCall → Named → Named → Type 0
NamesCalls [] old new = new ≡ old
NamesCalls (call ∷ calls) old new = (mid : Named) × NamesCall call.part call.number old mid × NamesCalls calls mid new

-- all of these reads are named, one after another
abbrev pub NamesAllReads : List FailingReads → Named → Named → Type 0
NamesAllReads [] old new = new ≡ old
NamesAllReads (reads ∷ more) old new = (mid : Named) × NamesReads (key_of reads.path) reads.times old mid × NamesAllReads more mid new

-- a site that tells this, on which no call came yet and nothing failed, and of which these calls and reads fail, and no others
pub record IsSetUp (calls : List FailingCall) (reads : List FailingReads) (told : Told) (site : FailingSite) : Type 0 where
  pub fresh : IsFreshSite told (seen_failing site)
  pub faults : (part : Part) → failures_in site part ≡ 0
  pub nothing : Named
  pub is_nothing : NamesNothing nothing
  pub with_calls : Named
  pub names_calls : NamesCalls calls nothing with_calls
  pub names_reads : NamesAllReads reads with_calls site.named

-- words that are refused change and report nothing
pub record IsUntouched (refusal : Outcome) (start : Start) (end : End) : Type 0 where
  pub outcome : IsOrNoMemory refusal end.outcome
  pub report : end.report ≡ []
  pub now : end.now ≡ start.told

-- a job is shown, and nothing changed
pub record MayShow (job : Job) (start : Start) (end : End) : Type 0 where
  pub shows : ShowsJob true job end.outcome [] end.report
  pub now : end.now ≡ start.told

-- how a run may end on a site of which calls fail: as is said of it there, and its report and its job files do not fail
pub record MayEnd (calls : List FailingCall) (reads : List FailingReads) (words : List (List ℕ)) (start : Start) (end : End) : Type 0 where
  pub before : FailingSite
  pub set_up : IsSetUp calls reads start.told before
  pub after : FailingSite
  pub now : end.now ≡ (seen_failing after).told
  pub waited_before : Paused
  pub waited_after : Paused
  pub moment_is : IfDone end.outcome (λ bits at. at ≡ start.moment)
  pub reported : end.outcome ≢ SinkFault
  pub stored : end.outcome ≢ JobFault
  pub kept : Keeps (asked words start.jobs) end.outcome start.jobs end.jobs
  pub refused : IfRefused (asked words start.jobs) (λ refusal. IsUntouched refusal start end)
  pub shown : IfShown (asked words start.jobs) (λ job. MayShow job start end)
  pub run : IfRun (asked words start.jobs) (λ job.
      Mirrors true true job start.moment end.outcome (seen_failing before) (seen_failing after) [] end.report waited_before waited_after)
