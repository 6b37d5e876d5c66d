-- How the roots of a site are named.
use Rattle.std.proofs.Common.{◌≡◌, ◌⊎◌, ℕ, Bool, List, [], Result, Ok, Err, subst}
use Rattle.rc_job.specs.declared.job.Job.{Job}
use Rattle.rc_jobfiles.specs.declared.resolving.Resolved.{Resolved}
use Rattle.rc_volume.specs.Site.{Seen}
use Rattle.rc_volume.specs.Waits.{Paused}
use Rattle.rc_run.specs.declared.outcome.Outcome.{Outcome}
use Rattle.rc_run.specs.Answers.{IsNamed}
use Rattle.rc_run.specs.Mirroring.{Mirrors}
use Rattle.rc_run.specs.Words.{IfRun, binding_of}

-- a run of words on a site whose roots were not named before names those of its job, or none
pub named_first :
    (asked : Result Resolved Outcome) (tells sink_tells : Bool) (moment : ℕ) (outcome : Outcome) (old new : Seen) (sent_old sent_new : List ℕ) (waited_old waited_new : Paused) →
    old.bound ≡ [] →
    IfRun asked (λ job. Mirrors tells sink_tells job moment outcome old new sent_old sent_new waited_old waited_new) →
    IfRun asked (λ job. (at : ℕ) × IsNamed outcome (binding_of job at) [] new.bound)
named_first (Ok accepted) tells sink_tells moment outcome old new sent_old sent_new waited_old waited_new none mirrors =
    λ runs. (moment, subst (λ bound. IsNamed outcome (binding_of accepted.job moment) bound new.bound) none ((mirrors runs).bound))
named_first (Err e) tells sink_tells moment outcome old new sent_old sent_new waited_old waited_new none mirrors = tt
