-- What is done to one entry of the source.
use Rattle.std.proofs.Common.{◌≡◌, ℕ, List, Option, Some, None, refl, sym, ap, ◌∙◌}
use Rattle.std.specs.Prelude.{option_map}
use Rattle.std.specs.FinMap.{get}
use Rattle.rc_tree.specs.declared.entry.Entry.{Entry}
use Rattle.rc_tree.specs.declared.props.Props.{Props}
use Rattle.rc_tree.specs.Path.{key_of}
use Rattle.rc_tree.specs.Tree.{Node, Tree}
use Rattle.rc_class.specs.declared.decision.After.{After}
use Rattle.rc_class.specs.declared.decision.After.TheVariants.{ClearArchive}
use Rattle.rc_class.specs.declared.item.Item.{Item}
use Rattle.rc_class.specs.Goal.{released, source_goal}
use Rattle.rc_class.specs.Items.{item_at}
use Rattle.rc_volume.specs.declared.site.Side.TheVariants.{Source}
use Rattle.rc_volume.specs.Log.{EntryCall, set_props}
use Rattle.rc_volume.specs.Site.{Told, entry_of, with_props}
use Rattle.rc_finish.specs.Calls.{freeing, Frees}
use Rattle.rc_finish.specs.Passes.{freed, pass_at, without_archive, HasPassedOn}
use Rattle.rc_finish.proofs.GiveLemmas.{none_entry, same_entry}

-- where A is taken from the properties that were found, what stands there has lost it
pub cleared_so : (item : Item) (props : Props) (old : Entry) (other o : Option Node) → item.after ≡ ClearArchive → Some old ≡ option_map entry_of o → props ≡ without_archive old.props → option_map (with_props props) o ≡ freed item other o
cleared_so item props old other None own found is = absurd (none_entry old found)
cleared_so item props old other (Some node) own found is =
    ap (λ (p : Props). Some (with_props p node)) (is ∙ ap (λ (e : Entry). without_archive e.props) (same_entry old node found))
    ∙ sym (ap (λ (after : After). released after node) own)

-- and the call is the one that does this
pub clearing_so : (item : Item) (props : Props) (old : Entry) (o : Option Node) → item.after ≡ ClearArchive → Some old ≡ option_map entry_of o → props ≡ without_archive old.props → freeing item.after o ≡ Some (set_props props)
clearing_so item props old None own found is = absurd (none_entry old found)
clearing_so item props old (Some node) own found is =
    ap (λ (after : After). freeing after (Some node)) own
    ∙ ap (λ (p : Props). Some (set_props p)) (sym (is ∙ ap (λ (e : Entry). without_archive e.props) (same_entry old node found)))

-- what is done at a key, said of two sites that have the same there
pub frees_at : (start mid : Told) (item : Item) (call : EntryCall) → get mid.source (key_of item.path) ≡ get start.source (key_of item.path) → Frees mid item call → Frees start item call
frees_at start mid item call same is = sym (ap (freeing item.after) same) ∙ is

-- once all items have passed the source has its goal
pub freed_goal : (items : List Item) (start : Told) (now : Tree) → HasPassedOn Source freed items start now → (key : List (List ℕ)) → get now key ≡ source_goal (item_at items key) (get start.source key)
freed_goal items start now passed key = passed key ∙ by (item_at items key) (get start.source key)
  where
    by : (found : Option Item) (source : Option Node) → pass_at freed found (get start.target key) source ≡ source_goal found source
    by None None = refl
    by None (Some node) = refl
    by (Some item) source = refl
