-- The items of a plan are all that the job decides of the two trees.
use Rattle.std.proofs.Common.{◌≡◌, ℕ, zero, suc, ◌<◌, true, cond, List, [], ◌∷◌, length, Option, None, Some, ⊎_elim, refl, sym, ap, ◌∙◌, arith}
use Rattle.std.specs.Prelude.{◌⊎◌, All}
use Rattle.rc_plan.specs.declared.plan.PlanErr.TheVariants as plan_err
use Rattle.rc_class.specs.declared.item.Item.{Item}
use Rattle.rc_class.specs.declared.plan.Plan.{Plan}
use Rattle.std.specs.Ordering.{eq_by_cmp}
use Rattle.rc_tree.specs.Path.{key_cmp, key_of}
use Rattle.rc_class.specs.Items.{are_rising, item_at}
use Rattle.rc_class.specs.Start.{IsPlanOf}
use Rattle.rc_filter.specs.Acts.{copies_bytes}
use Rattle.rc_filter.specs.Decided.{planned_items}
use Rattle.rc_job.specs.declared.job.Job.{Job}
use Rattle.rc_volume.specs.Site.{Told}
use Rattle.rc_plan.specs.declared.plan.PlanErr.{PlanErr}
use Rattle.rc_plan.specs.Deciding.{AreDecided}
use Rattle.rc_plan.specs.Limits.{limit_of}
use Rattle.rc_plan.specs.Plan.{limit_in, plan_with, start_in, MayRefuse}

pub is_plan : (job : Job) (told : Told) (moment : ℕ) (items : List Item) → are_rising items ≡ true → AreDecided job told.source told.target moment items → IsPlanOf (start_in job told) (plan_with job moment items)
is_plan job told moment items rising decided = record { job = refl; with_bytes = refl; rising = rising; items = decided }

-- every plan of a job on two trees has just the planned items
abbrev pub PlannedLaw : Job → Told → Type 0
PlannedLaw job told = (plan : Plan) → IsPlanOf (start_in job told) plan → plan.items ≡ planned_items job told.source told.target plan.moment

pub limit_so : (job : Job) (told : Told) (moment : ℕ) (items : List Item) (passed : Option PlanErr) → PlannedLaw job told → are_rising items ≡ true → AreDecided job told.source told.target moment items → limit_of (copies_bytes job) items ≡ passed → limit_in job told moment ≡ passed
limit_so job told moment items passed law rising decided is =
    ap (limit_of (copies_bytes job)) (sym (law (plan_with job moment items) (is_plan job told moment items rising decided))) ∙ is

-- an answer of the limits is that of the items, or want of memory
pub refuses_so : (passed : Option PlanErr) (e : PlanErr) → (e ≡ plan_err.NoMemory) ⊎ (passed ≡ Some e) → MayRefuse passed e
refuses_so passed (plan_err.ListFault side) found = tt
refuses_so passed (plan_err.TooMany side count) found = ⊎_elim (λ none. cc) (λ is. is) found
refuses_so passed (plan_err.TooBig path size) found = ⊎_elim (λ none. cc) (λ is. is) found
refuses_so passed plan_err.NoMemory found = tt

-- no item is of the root, where none is found at its key
filled : (path : List (List ℕ)) (item : Item) (rest : Option Item) → cond (eq_by_cmp key_cmp [] (key_of path)) (Some item) rest ≡ None → (0 < length path) × (rest ≡ None)
filled [] item rest some = cc
filled (name ∷ names) item rest none = (omega arith, none)

pub below_root : (items : List Item) → item_at items [] ≡ None → All (λ item. 0 < length item.path) items
below_root [] none k d l = absurd (omega (arith, l))
below_root (item ∷ items) none zero d l = (filled item.path item (item_at items []) none).0
below_root (item ∷ items) none (suc k) d l = below_root items (filled item.path item (item_at items []) none).1 k d (omega (arith, l))
