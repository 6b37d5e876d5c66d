-- What a run leaves, one key at a time, said of its job and of the two whole trees on which it started; and what it reads.
use Rattle.std.specs.Prelude.{◌≡◌, ℕ, List, [], if◌then◌else◌}
use Rattle.std.specs.FinMap.{get}
use Rattle.rc_class.specs.declared.item.Item.{Item}
use Rattle.rc_class.specs.Start.{Start, goal_source, goal_target}
use Rattle.rc_copy.specs.Reading.{wants_of}
use Rattle.rc_filter.specs.Acts.{copies_bytes}
use Rattle.rc_filter.specs.Decided.{planned_items}
use Rattle.rc_job.specs.declared.job.Job.{Job}
use Rattle.rc_volume.specs.declared.want.Want.{Want}
use Rattle.rc_volume.specs.Site.{Told}

-- what a run of this job decides, in the order of keys, where it began at this moment
abbrev pub items_at : Job → Told → ℕ → List Item
items_at job told moment = planned_items job told.source told.target moment

-- all that is read of the items of a job: nothing under `/L`
abbrev pub wants_in : Job → List Item → List Want
wants_in job items = if job.list_only then [] else wants_of 0 (copies_bytes job) items

-- all that a run of a job reads, where it began at this moment
abbrev pub read_by : Job → ℕ → Told → List Want
read_by job moment start = wants_in job (items_at job start moment)

-- both trees are the goals at every key, and the record is empty
pub record IsMirrored (start : Start) (moment : ℕ) (now : Told) : Type 0 where
  pub target : (key : List (List ℕ)) → get now.target key ≡ goal_target start moment key
  pub source : (key : List (List ℕ)) → get now.source key ≡ goal_source start moment key
  pub notes : now.notes ≡ []
