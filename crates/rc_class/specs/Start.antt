-- Where a run begins, and what its plan and its goals are.
use Rattle.std.specs.Prelude.{◌≡◌, ℕ, Bool, true, List, Option}
use Rattle.std.specs.FinMap.{get}
use Rattle.rc_tree.specs.Tree.{Node, Tree}
use Rattle.rc_class.specs.declared.item.Item.{Item}
use Rattle.rc_class.specs.declared.plan.Plan.{Plan}
use Rattle.rc_class.specs.declared.rules.Rules.{Rules}
use Rattle.rc_class.specs.Goal.{target_goal, source_goal}
use Rattle.rc_class.specs.Items.{item_at, are_rising}

-- two trees and a job: its text, its rules, whether copies have bytes, and what it decides of a key at a moment
pub record Start : Type 0 where
  pub source : Tree
  pub target : Tree
  pub job : List ℕ
  pub rules : Rules
  pub with_bytes : Bool
  pub decided : ℕ → List (List ℕ) → Option Item

-- the items are those of all decided keys, in the order of their keys
pub record IsPlanOf (start : Start) (plan : Plan) : Type 0 where
  pub job : plan.job ≡ start.job
  pub with_bytes : plan.with_bytes ≡ start.with_bytes
  pub rising : are_rising plan.items ≡ true
  pub items : (key : List (List ℕ)) → item_at plan.items key ≡ start.decided plan.moment key

-- what the trees have at a key in the end, where the run began at this moment
abbrev pub goal_target : Start → ℕ → List (List ℕ) → Option Node
goal_target start moment key = target_goal start.rules start.with_bytes moment (start.decided moment key) (get start.source key) (get start.target key)

abbrev pub goal_source : Start → ℕ → List (List ℕ) → Option Node
goal_source start moment key = source_goal (start.decided moment key) (get start.source key)
