-- What the words of a run ask for, with the job files that they name, and why others are refused.
use Rattle.std.specs.Prelude.{◌≡◌, ◌⊎◌, ℕ, Bool, true, false, List, [], Option, Some, None, Result, Ok, Err, if◌then◌else◌}
use Rattle.rc_job.specs.declared.job.Job.{Job}
use Rattle.rc_jobfiles.specs.declared.job_err.JobErr.{JobErr}
use Rattle.rc_jobfiles.specs.declared.job_err.JobErr.TheVariants as jobs
use Rattle.rc_jobfiles.specs.declared.resolving.Resolved.{Resolved}
use Rattle.rc_jobfiles.specs.Built.{built_words}
use Rattle.rc_jobfiles.specs.Resolving.{Store, names_no_file, resolved}
use Rattle.rc_volume.specs.declared.binding.Binding.{Binding}
use Rattle.rc_run.specs.declared.outcome.Outcome.{Outcome}
use Rattle.rc_run.specs.declared.outcome.Outcome.TheVariants.{NotYet, Usage, JobMissing, JobDeep, JobRound, JobFault, NoMemory}
use Rattle.rc_run.specs.declared.outcome.Unbuilt.TheVariants as unbuilt

-- how a refusal of words or of job files is answered
abbrev pub outcome_of : JobErr → Outcome
outcome_of (jobs.Usage file place kind) = Usage file place kind
outcome_of (jobs.Missing name) = JobMissing name
outcome_of (jobs.Deep name) = JobDeep name
outcome_of (jobs.Round name) = JobRound name
outcome_of jobs.StoreFault = JobFault
outcome_of jobs.NoMemory = NoMemory

abbrev pub answered : Result Resolved JobErr → Result Resolved Outcome
answered (Ok accepted) = Ok accepted
answered (Err refusal) = Err (outcome_of refusal)

-- what words ask for over a store of job files, or why they are refused: a switch without effect before all else that
-- speaks of more than one word of the command line
abbrev pub asked : List (List ℕ) → Store → Result Resolved Outcome
asked words files = if built_words words then answered (resolved words files) else Err (NotYet unbuilt.Words)

-- it is known what they ask for: the store tells its files, or none of them is named
abbrev pub AreKnown : Bool → List (List ℕ) → Type 0
AreKnown tells words = (tells ≡ true) ⊎ (names_no_file words ≡ true)

-- Of what words ask for

-- of their refusal, where they are refused
abbrev pub IfRefused : Result Resolved Outcome → (Outcome → Type 0) → Type 0
IfRefused (Ok accepted) holds = Unit {0}
IfRefused (Err refusal) holds = holds refusal

-- of the job that is only shown, under `/QUIT`
abbrev pub IfShown : Result Resolved Outcome → (Job → Type 0) → Type 0
IfShown (Ok accepted) holds = accepted.quit ≡ true → holds accepted.job
IfShown (Err refusal) holds = Unit {0}

-- and of the job that is run
abbrev pub IfRun : Result Resolved Outcome → (Job → Type 0) → Type 0
IfRun (Ok accepted) holds = accepted.quit ≡ false → holds accepted.job
IfRun (Err refusal) holds = Unit {0}

-- a root as a job names it; the empty text where it names none
abbrev pub root_text : Option (List ℕ) → List ℕ
root_text None = []
root_text (Some root) = root

-- how a site is told the roots of a job, and how it looks at files
abbrev pub binding_of : Job → ℕ → Binding
binding_of job moment = record { source = root_text job.source; target = root_text job.target; scan = job.scan; moment = moment }
