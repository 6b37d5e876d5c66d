-- What a key has in the end where what was decided there leaves it alone.
use Rattle.std.proofs.Common.{◌≡◌, ℕ, Bool, true, Option, Some, None, refl, sym}
use Rattle.std.proofs.lemmas.Bool.{true≢false}
use Rattle.rc_tree.specs.Tree.{Node}
use Rattle.rc_class.specs.declared.decision.Act.{Act}
use Rattle.rc_class.specs.declared.decision.Act.TheVariants.{Purge, Extra, Mismatch, Keep}
use Rattle.rc_class.specs.declared.item.Item.{Item}
use Rattle.rc_class.specs.declared.rules.Rules.{Rules}
use Rattle.rc_class.specs.Goal.{goal_of_act, goal_of_extra, is_left, target_goal}

-- the target has there what it had
pub left_stays : (rules : Rules) (with_bytes : Bool) (moment : ℕ) (item : Item) (source target : Option Node) → is_left item.act ≡ true → target_goal rules with_bytes moment (Some item) source target ≡ target
left_stays rules with_bytes moment item None target left = extra item.act left
  where
    extra : (act : Act) → is_left act ≡ true → goal_of_extra act target ≡ target
    extra Purge e = absurd (true≢false (sym e))
    extra _ e = refl
left_stays rules with_bytes moment item (Some node) target left = kept item.act left
  where
    kept : (act : Act) → is_left act ≡ true → goal_of_act rules with_bytes moment item.class act node target ≡ target
    kept Extra e = refl
    kept Mismatch e = refl
    kept (Keep reason) e = refl
    kept _ e = absurd (true≢false (sym e))
