-- What `/SAVE` keeps in the store of job files, and what `/QUIT` shows.
use Rattle.std.specs.Prelude.{◌≡◌, ◌≢◌, ◌⊎◌, ℕ, Bool, true, List, ◌++◌, Option, Some, None, Result, Ok, Err, encode_utf8_all}
use Rattle.std.specs.FinMap.{get}
use Rattle.rc_tree.specs.Name.{folded}
use Rattle.rc_job.specs.declared.job.Job.{Job}
use Rattle.rc_job.specs.Settings.{canonical}
use Rattle.rc_jobfiles.specs.declared.resolving.Resolved.{Resolved}
use Rattle.rc_jobfiles.specs.Resolving.{Store, full_name}
use Rattle.rc_volume.specs.Streams.{AppendsFront}
use Rattle.rc_run.specs.declared.outcome.Outcome.{Outcome}
use Rattle.rc_run.specs.declared.outcome.Outcome.TheVariants.{JobFault, Listed, NoMemory, SinkFault}
use Rattle.rc_run.specs.Outcome.{ending, is_reported, may_be_old}

-- the bytes of the text that determines a job
abbrev pub job_bytes : Job → List ℕ
job_bytes job = encode_utf8_all (canonical job)

-- `/SAVE`: the store has these bytes under this name, or after some answers perhaps what it had; and else what it had
pub record KeepsText (name bytes : List ℕ) (may_be_old : Bool) (old new : Store) : Type 0 where
  pub kept :
      (get new (folded name) ≡ Some bytes) ⊎ ((may_be_old ≡ true) × (get new (folded name) ≡ get old (folded name)))
  pub others : (other : List ℕ) → other ≢ folded name → get new other ≡ get old other

-- a job is kept under a name where there is one
abbrev pub KeepsJob : Option (List ℕ) → Job → Bool → Store → Store → Type 0
KeepsJob None job may_be_old old new = new ≡ old
KeepsJob (Some name) job may_be_old old new = KeepsText (full_name name) (job_bytes job) may_be_old old new

-- what a run leaves of the store, by what its words ask for and by its answer: words that are refused keep nothing
abbrev pub Keeps : Result Resolved Outcome → Outcome → Store → Store → Type 0
Keeps (Ok accepted) outcome old new = KeepsJob accepted.save accepted.job (may_be_old (ending outcome)) old new
Keeps (Err refusal) outcome old new = new ≡ old

-- words that ask for no `/SAVE`
abbrev pub SavesNothing : Result Resolved Outcome → Type 0
SavesNothing (Ok accepted) = accepted.save ≡ None
SavesNothing (Err refusal) = Unit {0}

-- `/QUIT`: the text of the job is sent in place of a report, and a front of it where the answer is a fault
pub record ShowsJob (tells : Bool) (job : Job) (outcome : Outcome) (old new : List ℕ) : Type 0 where
  pub answer : (outcome ≡ Listed 0) ⊎ (outcome ≡ SinkFault) ⊎ (outcome ≡ JobFault) ⊎ (outcome ≡ NoMemory)
  pub whole : tells ≡ true → is_reported (ending outcome) ≡ true → new ≡ old ++ job_bytes job
  pub front : tells ≡ true → AppendsFront old (job_bytes job) new
