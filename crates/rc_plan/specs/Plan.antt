-- What the plan of a job on two trees has, and why there is none.
use Rattle.std.specs.Prelude.{◌≡◌, ℕ, ◌+◌, ◌<◌, true, All, List, [], length, Option, None, Some, Result, Ok, Err}
use Rattle.rc_tree.specs.Tree.{IsTree}
use Rattle.rc_class.specs.declared.item.Item.{Item}
use Rattle.rc_class.specs.declared.plan.Plan.{Plan}
use Rattle.rc_class.specs.Items.{are_rising}
use Rattle.rc_class.specs.Start.{Start}
use Rattle.rc_filter.specs.Acts.{copies_bytes}
use Rattle.rc_filter.specs.Decided.{planned_items, start_of}
use Rattle.rc_job.specs.declared.job.Job.{Job}
use Rattle.rc_volume.specs.Faults.{Cause, free, on, part_for}
use Rattle.rc_volume.specs.Site.{Told}
use Rattle.rc_plan.specs.declared.plan.PlanErr.{PlanErr}
use Rattle.rc_plan.specs.declared.plan.PlanErr.TheVariants.{ListFault, TooMany, TooBig, NoMemory}
use Rattle.rc_plan.specs.Limits.{limit_of}

-- where a run of a job begins on what a site tells
abbrev pub start_in : Job → Told → Start
start_in job told = start_of job told.source told.target

-- both trees that are told are trees
pub record AreTrees (told : Told) : Type 0 where
  pub source : IsTree told.source
  pub target : IsTree told.target

-- what an answer says of a site's counts of faults, where a listing is tried again so often
abbrev pub plan_cause : {T : Type 0} → ℕ → Result T PlanErr → Cause
plan_cause retries (Ok value) = free
plan_cause retries (Err (ListFault side)) = on (part_for side) (retries + 1)
plan_cause retries (Err (TooMany side count)) = free
plan_cause retries (Err (TooBig path size)) = free
plan_cause retries (Err NoMemory) = free

-- the limit that all that a job decides of two trees passes
abbrev pub limit_in : Job → Told → ℕ → Option PlanErr
limit_in job told moment = limit_of (copies_bytes job) (planned_items job told.source told.target moment)

-- a plan is refused by a limit exactly where that is passed
abbrev pub MayRefuse : Option PlanErr → PlanErr → Type 0
MayRefuse passed (ListFault side) = Unit {0}
MayRefuse passed (TooMany side count) = passed ≡ Some (TooMany side count)
MayRefuse passed (TooBig path size) = passed ≡ Some (TooBig path size)
MayRefuse passed NoMemory = Unit {0}

-- the plan that has these items
abbrev pub plan_with : Job → ℕ → List Item → Plan
plan_with job moment items = record { job = []; moment = moment; stride = 0; with_bytes = copies_bytes job; items = items }

-- what every plan of a job at a moment has, whether trees were told or not
pub record IsMadeFor (job : Job) (begun : ℕ) (plan : Plan) : Type 0 where
  pub moment : plan.moment ≡ begun
  pub stride : plan.stride ≡ 0
  pub with_bytes : plan.with_bytes ≡ copies_bytes job
  pub rising : are_rising plan.items ≡ true
  pub below : All (λ item. 0 < length item.path) plan.items
  pub limits : limit_of plan.with_bytes plan.items ≡ None
