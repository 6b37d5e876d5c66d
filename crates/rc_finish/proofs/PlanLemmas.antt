-- The items of a plan fit the trees of which it is.
use Rattle.std.proofs.Common.{◌≡◌, ℕ, ◌<◌, true, List, [], ◌∷◌, Option, None, Some, get_or, length, refl, sym, subst, ◌∙◌, arith}
use Rattle.std.proofs.lemmas.Bool.{true≢false}
use Rattle.std.specs.FinMap.{get}
use Rattle.rc_tree.specs.declared.attr.Kind.{Kind}
use Rattle.rc_tree.specs.declared.attr.Kind.TheVariants.{Dir, File}
use Rattle.rc_tree.specs.Path.{key_of}
use Rattle.rc_tree.specs.Tree.{IsTree, Node, Tree}
use Rattle.rc_class.specs.declared.class.Class.{Class}
use Rattle.rc_class.specs.declared.class.Class.TheVariants.{Lonely, Extra, Mismatched}
use Rattle.rc_class.specs.declared.decision.Act.{Act}
use Rattle.rc_class.specs.declared.decision.Act.TheVariants as act
use Rattle.rc_class.specs.declared.item.Item.{Item}
use Rattle.rc_class.specs.declared.plan.Plan.{Plan}
use Rattle.rc_class.specs.Items.{item_at}
use Rattle.rc_class.specs.Sides.{may_act, Beside, Fits, IsDecidedIn, IsEntryOf}
use Rattle.rc_class.specs.Start.{IsPlanOf, Start}
use Rattle.rc_volume.specs.Site.{Told}
use Rattle.rc_finish.specs.Passes.{AreBelowRoot, AreFit}
use Rattle.rc_finish.proofs.ItemKeys.{found_own, is_so}
use Rattle.rc_finish.proofs.MakeLemmas.{is_make_so}

made_kind : (class : Class) (kind : Kind) → may_act class kind act.Make ≡ true → kind ≡ Dir
made_kind class Dir may = refl
made_kind class File may = absurd (true≢false (sym may))

pub plan_fits : (start : Start) (plan : Plan) (told : Told) → IsPlanOf start plan → ((key : List (List ℕ)) (item : Item) → start.decided plan.moment key ≡ Some item → IsDecidedIn start plan.moment key item) → told.source ≡ start.source → told.target ≡ start.target → AreFit plan.items told
plan_fits start plan told is law source target key item found = (
  subst (λ (tree : Tree). Fits (item_at plan.items) tree told.target key item) (sym source)
      (subst (λ (tree : Tree). Fits (item_at plan.items) start.source tree key item) (sym target)
      (subst (λ (decided : List (List ℕ) → Option Item). Fits decided start.source start.target key item) (sym same) says.fits)),
  λ own. made_kind item.class item.facts.kind (subst (λ (does : Act). may_act item.class item.facts.kind does ≡ true) (is_make_so item.act own) says.allowed),
)
  where
    same : item_at plan.items ≡ start.decided plan.moment
    same = λ i. λ (key : List (List ℕ)). is.items key i

    says : IsDecidedIn start plan.moment key item
    says = law key item (sym (is.items key) ∙ found)

-- None is at the root

no_entry : (item : Item) → IsEntryOf item None → ⊥
no_entry item is = absurd (none_some is.node is.stands)
  where
    none_some : (node : Node) → None ≡ Some node → ⊥
    none_some node e = cc

beside_some : (class : Class) (item : Item) → Beside class item None None → ⊥
beside_some Lonely item h = no_entry item h.0
beside_some Extra item h = no_entry item h.1
beside_some Mismatched item h = no_entry item h.0
beside_some _ item h = no_entry item h.0

named : (class : Class) (item : Item) (path : List (List ℕ)) (source target : Tree) → get source [] ≡ None → get target [] ≡ None → Beside class item (get source (key_of path)) (get target (key_of path)) → 0 < length path
named class item [] source target ours theirs beside =
    absurd (beside_some class item (subst (λ (o : Option Node). Beside class item o None) ours (subst (λ (o : Option Node). Beside class item (get source []) o) theirs beside)))
named class item (name ∷ names) source target ours theirs beside = omega arith

pub plan_below : (start : Start) (plan : Plan) → IsPlanOf start plan → ((key : List (List ℕ)) (item : Item) → start.decided plan.moment key ≡ Some item → IsDecidedIn start plan.moment key item) → IsTree start.source → IsTree start.target → AreBelowRoot plan.items
plan_below start plan is law source target k d l =
    let item = get_or plan.items k d in
    let key = key_of item.path in
    let says = law key item (sym (is.items key) ∙ found_own plan.items k d (is_so _ is.rising) l) in
    named item.class item item.path start.source start.target source.0 target.0 says.beside
