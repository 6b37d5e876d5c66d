-- What stands on the way of a copy: other bytes, the file as it is made, and the end.
use Rattle.std.proofs.Common.{◌≡◌, ℕ, Bool, true, false, [], cond, length, refl, sym, ap, subst, ◌∙◌, inr, true≢false}
use Rattle.std.specs.Prelude.{Option, Some, None, option_map}
use Rattle.rc_tree.specs.Path.{last_name}
use Rattle.rc_tree.specs.Tree.{Node}
use Rattle.rc_class.specs.declared.item.Item.{Item}
use Rattle.rc_class.specs.declared.plan.Plan.{Plan}
use Rattle.rc_class.specs.declared.rules.Rules.{Rules}
use Rattle.rc_class.specs.Class.{is_lonely}
use Rattle.rc_class.specs.Goal.{copied_file, new_file, picked}
use Rattle.rc_volume.specs.Images.{AreMixed}
use Rattle.rc_volume.specs.Site.{IsHalfResized, fresh_file, resized}
use Rattle.rc_core.specs.Copies.{IsOnWay, IsUnderway, copy_goal}
use Rattle.rc_core.specs.Follows.{HasFileOf}
use Rattle.rc_core.proofs.SameBytes.{half_resized_same, resized_same}

no_bytes : (with_bytes : Bool) → with_bytes ≡ true → with_bytes ≡ false → ⊥
no_bytes with_bytes e f = true≢false (sym e ∙ f)

-- where bytes go along, other bytes are on the way too
underway_bytes : (lonely with_bytes : Bool) (old goal : Option Node) (node new : Node) → with_bytes ≡ true → new ≡ record node { bytes = new.bytes } → IsUnderway lonely with_bytes old goal (Some node) → IsUnderway lonely with_bytes old goal (Some new)
underway_bytes true with_bytes old None node new along rest way = way
underway_bytes true with_bytes old (Some end) node new along rest way = record {
  is_file = ap (λ (n : Node). n.kind) rest ∙ way.is_file;
  spelling = ap (λ (n : Node). n.spelling) rest ∙ way.spelling;
  bytes = λ without. absurd (no_bytes with_bytes along without);
}
underway_bytes false with_bytes None goal node new along rest way = way
underway_bytes false with_bytes (Some before) None node new along rest way = way
underway_bytes false with_bytes (Some before) (Some end) node new along rest way = (
  way.0,
  record {
    is_file = ap (λ (n : Node). n.kind) rest ∙ way.1.is_file;
    spelling = ap (λ (n : Node). n.spelling) rest ∙ way.1.spelling;
    props = subst (AreMixed before.props end.props) (sym (ap (λ (n : Node). n.props) rest)) way.1.props;
    bytes = λ without. absurd (no_bytes with_bytes along without);
  },
)

pub way_bytes : (rules : Rules) (plan : Plan) (item : Item) (source old : Option Node) (node new : Node) → plan.with_bytes ≡ true → new ≡ record node { bytes = new.bytes } → IsOnWay rules plan item source old (Some node) → IsOnWay rules plan item source old (Some new)
way_bytes rules plan item source old node new along rest way =
    underway_bytes (is_lonely item.class) plan.with_bytes old (copy_goal rules plan item source old) node new along rest way

-- the goal of a copy by its parts
abbrev pub end_by : Bool → Rules → Plan → Node → Option Node → Option Node
end_by lonely rules plan from old = option_map (copied_file rules plan.with_bytes from) (cond lonely (Some (new_file plan.moment from)) old)

-- a file that is made where nothing stands
underway_fresh : (lonely : Bool) (rules : Rules) (plan : Plan) (item : Item) (from : Node) (old : Option Node) → last_name item.path ≡ from.spelling → IsUnderway lonely plan.with_bytes old (end_by lonely rules plan from old) None → IsUnderway lonely plan.with_bytes old (end_by lonely rules plan from old) (Some (fresh_file (last_name item.path)))
underway_fresh true rules plan item from old spelled way = record { is_file = refl; spelling = spelled; bytes = λ without. refl }
underway_fresh false rules plan item from None spelled way = way
underway_fresh false rules plan item from (Some before) spelled way = absurd way

pub way_fresh : (rules : Rules) (plan : Plan) (item : Item) (source old : Option Node) → HasFileOf item source → IsOnWay rules plan item source old None → IsOnWay rules plan item source old (Some (fresh_file (last_name item.path)))
way_fresh rules plan item None old has way = absurd has
way_fresh rules plan item (Some from) old has way = underway_fresh (is_lonely item.class) rules plan item from old has.2 way

-- the end is on the way, where anything is
underway_end : (lonely : Bool) (rules : Rules) (plan : Plan) (from : Node) (old now : Option Node) → IsUnderway lonely plan.with_bytes old (end_by lonely rules plan from old) now → IsUnderway lonely plan.with_bytes old (end_by lonely rules plan from old) (end_by lonely rules plan from old)
underway_end true rules plan from old now way = record { is_file = refl; spelling = refl; bytes = λ without. ap (λ b. picked b from.bytes []) without }
underway_end false rules plan from None now way = way
underway_end false rules plan from (Some before) None way = absurd way
underway_end false rules plan from (Some before) (Some node) way = (
  way.0,
  record {
    is_file = way.0;
    spelling = refl;
    props = record { attr = inr refl; created = inr refl; written = inr refl; access = inr refl; owner = inr refl; audit = inr refl };
    bytes = λ without. ap (λ b. picked b from.bytes before.bytes) without;
  },
)

pub way_end : (rules : Rules) (plan : Plan) (item : Item) (source old now : Option Node) → HasFileOf item source → IsOnWay rules plan item source old now → IsOnWay rules plan item source old (copy_goal rules plan item source old)
way_end rules plan item None old now has way = absurd has
way_end rules plan item (Some from) old now has way = underway_end (is_lonely item.class) rules plan from old now way

-- a length that is set or on its way, where bytes go along, or else its own

pub way_resized : (rules : Rules) (plan : Plan) (item : Item) (source old : Option Node) (size : ℕ) (node : Node) → (plan.with_bytes ≡ false → length node.bytes ≡ size) → IsOnWay rules plan item source old (Some node) → IsOnWay rules plan item source old (Some (resized size node))
way_resized rules plan item source old size node own way = by plan.with_bytes refl
  where
    by : (b : Bool) → plan.with_bytes ≡ b → IsOnWay rules plan item source old (Some (resized size node))
    by true along = way_bytes rules plan item source old node (resized size node) along refl way
    by false without = subst (λ (n : Node). IsOnWay rules plan item source old (Some n)) (sym (resized_same size node (own without))) way

pub way_half : (rules : Rules) (plan : Plan) (item : Item) (source old : Option Node) (size : ℕ) (node new : Node) → (plan.with_bytes ≡ false → length node.bytes ≡ size) → IsHalfResized size node new → IsOnWay rules plan item source old (Some node) → IsOnWay rules plan item source old (Some new)
way_half rules plan item source old size node new own half way = by plan.with_bytes refl
  where
    by : (b : Bool) → plan.with_bytes ≡ b → IsOnWay rules plan item source old (Some new)
    by true along = way_bytes rules plan item source old node new along half.rest way
    by false without = subst (λ (n : Node). IsOnWay rules plan item source old (Some n)) (sym (half_resized_same size node new half (own without))) way
