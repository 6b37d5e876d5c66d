-- That what both sides have at the key of an item is what its act needs.
use Rattle.std.proofs.Common.{◌≡◌, Bool, true, false, not, ◌&&◌, Option, Some, None, sym, ap, subst}
use Rattle.std.proofs.lemmas.Bool.{true≢false}
use Rattle.std.specs.Prelude.{IfSome}
use Rattle.rc_tree.specs.declared.attr.Kind.{Kind}
use Rattle.rc_tree.specs.Codes.{is_dir}
use Rattle.rc_tree.specs.Tree.{Node}
use Rattle.rc_class.specs.declared.class.Class.{Class}
use Rattle.rc_class.specs.declared.class.Class.TheVariants.{Lonely, Extra, Mismatched}
use Rattle.rc_class.specs.declared.decision.Act.{Act}
use Rattle.rc_class.specs.declared.decision.Act.TheVariants as act
use Rattle.rc_class.specs.declared.facts.Facts.{Facts}
use Rattle.rc_class.specs.declared.item.Item.{Item}
use Rattle.rc_class.specs.Sides.{Beside, HasKind, IsEntryOf, IsReady, is_put, may_act}

no : (k : Bool) → k && false ≡ true → ⊥
no true e = true≢false (sym e)
no false e = true≢false (sym e)

-- the entry of an item has its kind
entry_kind : (item : Item) (found : Option Node) → IsEntryOf item found → HasKind item.facts.kind found
entry_kind item found entry =
    subst (HasKind item.facts.kind) (sym entry.stands) (sym (ap (λ (facts : Facts). facts.kind) entry.facts))

-- what the source has
by_class : (item : Item) (source target : Option Node) (c : Class) → Beside c item source target → may_act c item.facts.kind item.act ≡ true → is_put item.act ≡ true → HasKind item.facts.kind source
by_class item source target Extra sides allowed put = absurd (never_extra item.act item.facts.kind allowed put)
  where
    never_extra : (does : Act) (k : Kind) → may_act Extra k does ≡ true → is_put does ≡ true → ⊥
    never_extra act.Copy k allowed put = no (not (is_dir k)) allowed
    never_extra act.Make k allowed put = no (is_dir k) allowed
    never_extra act.Touch k allowed put = no (is_dir k) allowed
    never_extra act.Fix k allowed put = no (not (is_dir k)) allowed
    never_extra _ k allowed put = true≢false (sym put)
by_class item source target _ sides allowed put = entry_kind item source sides.0

pub source_fits : (item : Item) (source target : Option Node) → Beside item.class item source target → may_act item.class item.facts.kind item.act ≡ true → is_put item.act ≡ true → HasKind item.facts.kind source
source_fits item source target sides allowed put = by_class item source target item.class sides allowed put

-- what the target has
may_have : (kind : Kind) (found : Option Node) → HasKind kind found → IfSome found (λ node. node.kind ≡ kind)
may_have kind None has = absurd has
may_have kind (Some node) has = has

none_has : (kind : Kind) (found : Option Node) → found ≡ None → IfSome found (λ node. node.kind ≡ kind)
none_has kind found e = subst (λ o. IfSome o (λ node. node.kind ≡ kind)) (sym e) tt

by_act : (item : Item) (source target : Option Node) (c : Class) (does : Act) → Beside c item source target → may_act c item.facts.kind does ≡ true → IsReady does item.facts.kind target
by_act item source target Lonely act.Copy sides allowed = none_has item.facts.kind target sides.1
by_act item source target Extra act.Copy sides allowed = absurd (no (not (is_dir item.facts.kind)) allowed)
by_act item source target Mismatched act.Copy sides allowed = absurd (no (not (is_dir item.facts.kind)) allowed)
by_act item source target _ act.Copy sides allowed = may_have item.facts.kind target sides.1
by_act item source target Lonely act.Make sides allowed = none_has item.facts.kind target sides.1
by_act item source target _ act.Make sides allowed = absurd (no (is_dir item.facts.kind) allowed)
by_act item source target Lonely act.Touch sides allowed = absurd (no (is_dir item.facts.kind) allowed)
by_act item source target Extra act.Touch sides allowed = absurd (no (is_dir item.facts.kind) allowed)
by_act item source target Mismatched act.Touch sides allowed = absurd (no (is_dir item.facts.kind) allowed)
by_act item source target _ act.Touch sides allowed = sides.1
by_act item source target Lonely act.Fix sides allowed = absurd (no (not (is_dir item.facts.kind)) allowed)
by_act item source target Extra act.Fix sides allowed = absurd (no (not (is_dir item.facts.kind)) allowed)
by_act item source target Mismatched act.Fix sides allowed = absurd (no (not (is_dir item.facts.kind)) allowed)
by_act item source target _ act.Fix sides allowed = sides.1
by_act item source target _ act.Purge sides allowed = tt
by_act item source target _ act.Extra sides allowed = tt
by_act item source target _ act.Mismatch sides allowed = tt
by_act item source target _ (act.Keep reason) sides allowed = tt

pub target_fits : (item : Item) (source target : Option Node) → Beside item.class item source target → may_act item.class item.facts.kind item.act ≡ true → IsReady item.act item.facts.kind target
target_fits item source target sides allowed = by_act item source target item.class item.act sides allowed
