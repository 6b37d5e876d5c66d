-- What holds of the job that words ask for, by what reading them came to.
use Rattle.std.proofs.Common.{◌≡◌, ◌⊎◌, List, ℕ, Result, Ok, Err, inl, inr, sym, ap, subst, ◌∙◌}
use Rattle.rc_job.specs.declared.job.Job.{Job}
use Rattle.rc_jobfiles.specs.declared.resolving.Resolved.{Resolved}
use Rattle.rc_jobfiles.specs.Resolving.{Store}
use Rattle.rc_run.specs.declared.outcome.Outcome.{Outcome}
use Rattle.rc_run.specs.declared.outcome.Outcome.TheVariants.{JobFault, NoMemory}
use Rattle.rc_run.specs.Words.{IfRun}

-- words were read: what they ask for, or a fault that may always come
abbrev pub Read : Result Resolved Outcome → Result Resolved Outcome → Type 0
Read wanted read = (read ≡ wanted) ⊎ (read ≡ Err NoMemory) ⊎ (read ≡ Err JobFault)

-- memory is wanting, or the store failed
abbrev pub IsFault : Outcome → Type 0
IsFault outcome = (outcome ≡ NoMemory) ⊎ (outcome ≡ JobFault)

ok_err : (accepted : Resolved) (e : Outcome) → Ok accepted ≡ Err e → ⊥
ok_err accepted e same = cc

abbrev error_in : Result Resolved Outcome → Outcome
error_in (Ok accepted) = NoMemory
error_in (Err e) = e

-- what holds of the job that is run
pub run_so : (wanted read : Result Resolved Outcome) (accepted : Resolved) (P : Job → Type 0) → Read wanted read → read ≡ Ok accepted → P accepted.job → IfRun wanted P
run_so wanted read accepted P (inl same) is held = subst (λ (r : Result Resolved Outcome). IfRun r P) (sym is ∙ same) (λ _. held)
run_so wanted read accepted P (inr (inl none)) is held = absurd (ok_err accepted NoMemory (sym is ∙ none))
run_so wanted read accepted P (inr (inr failed)) is held = absurd (ok_err accepted JobFault (sym is ∙ failed))

of_all : (wanted : Result Resolved Outcome) (P : Job → Type 0) → ((job : Job) → P job) → IfRun wanted P
of_all (Ok accepted) P all = λ _. all accepted.job
of_all (Err e) P all = _

-- and of each job, where reading them came to a fault
pub run_stopped : (wanted read : Result Resolved Outcome) (outcome : Outcome) (P : Job → Type 0) → Read wanted read → read ≡ Err outcome → (IsFault outcome → (job : Job) → P job) → IfRun wanted P
run_stopped wanted read outcome P (inl same) is all = subst (λ (r : Result Resolved Outcome). IfRun r P) (sym is ∙ same) _
run_stopped wanted read outcome P (inr (inl none)) is all = of_all wanted P (all (inl (ap error_in (sym is ∙ none))))
run_stopped wanted read outcome P (inr (inr failed)) is all = of_all wanted P (all (inr (ap error_in (sym is ∙ failed))))
