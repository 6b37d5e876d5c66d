-- What is done to the source behind the target.
use Rattle.std.proofs.Common.{◌≡◌, ℕ, Bool, true, false, List, [], ◌∷◌, ◌++◌, Option, None, Some, ⊎_elim, inl, inr, refl, sym, ap, subst, ◌∙◌, append_assoc, if◌then◌else◌}
use Rattle.std.proofs.lemmas.List.Elements.{All-append, All-cons, All-nil, All-weaker}
use Rattle.std.specs.Prelude.{All}
use Rattle.std.specs.FinMap.{get}
use Rattle.rc_tree.specs.Tree.{Node, Tree}
use Rattle.rc_class.specs.declared.item.Item.{Item}
use Rattle.rc_class.specs.Goal.{source_goal}
use Rattle.rc_class.specs.Items.{item_at}
use Rattle.rc_copy.specs.declared.copying.Copying.{Copying}
use Rattle.rc_copy.specs.Copying.{CopiesFiles}
use Rattle.rc_finish.specs.Calls.{Frees, IsCallOn, LogsCallsOn, LogsPassOn}
use Rattle.rc_finish.specs.Passes.{IsPassingOn, freed, frees_any, pass_at}
use Rattle.rc_volume.specs.declared.site.Part.TheVariants as part
use Rattle.rc_volume.specs.declared.site.Side.TheVariants.{Source, Target}
use Rattle.rc_volume.specs.Faults.{Cause, Counts, free}
use Rattle.rc_volume.specs.Frames.{ChangesSide}
use Rattle.rc_volume.specs.Images.{IsOnlyTree}
use Rattle.rc_volume.specs.Log.{Event, LogsOn, is_on, synced}
use Rattle.rc_volume.specs.Site.{Seen, Told}
use Rattle.rc_volume.proofs.ImageLemmas.{tree_stands}
use Rattle.rc_run.specs.Under.{AreReleased, AreReleasing, ChangesTrees, HaveGoals, IsLasting, IsLastingOn, ReleasesLast}

-- Keys

freed_goal : (found : Option Item) (target source : Option Node) → pass_at freed found target source ≡ source_goal found source
freed_goal None target None = refl
freed_goal None target (Some node) = refl
freed_goal (Some item) target source = refl

pub are_releasing : (items : List Item) (start mid : Told) (now : Tree) → mid.source ≡ start.source → IsPassingOn Source freed items mid now → AreReleasing items start now
are_releasing items start mid now same passing key =
    ⊎_elim
    (λ (stays : get now key ≡ get mid.source key). inl (stays ∙ own))
    (λ (is : get now key ≡ pass_at freed (item_at items key) (get mid.target key) (get mid.source key)). inr (is ∙ freed_goal (item_at items key) (get mid.target key) (get mid.source key) ∙ ap (source_goal (item_at items key)) own))
    (passing key)
  where
    own : get mid.source key ≡ get start.source key
    own = ap (λ (t : Tree). get t key) same

pub released_from : (items : List Item) (start mid : Told) (now : Tree) → mid.source ≡ start.source → ((key : List (List ℕ)) → get now key ≡ source_goal (item_at items key) (get mid.source key)) → AreReleased items start now
released_from items start mid now same goals key = goals key ∙ ap (λ (t : Tree). source_goal (item_at items key) (get t key)) same

-- Calls

-- where no other part has an event more, a stop leaves of the target what it left
only_behind : (old new : List Event) (tree : Tree) → LogsOn part.Source old new → IsOnlyTree Target old tree → IsOnlyTree Target new tree
only_behind old new tree logs only = record {
  left = tree_stands part.Source Target new old tree (λ other apart. sym (logs other apart)) (λ e. cc) only.left;
  only = λ image may. only.only image (tree_stands part.Source Target old new image logs (λ e. cc) may);
}

-- a log goes on by calls on the source alone
abbrev pub OnSource : List Event → Type 0
OnSource events = All (λ event. is_on part.Source event ≡ true) events

pub record GoesOn (old new : List Event) : Type 0 where
  pub since : List Event
  pub is : new ≡ old ++ since
  pub each : OnSource since

called_on_source : (start : Told) (items : List Item) (events : List Event) → All (IsCallOn Source (Frees start) items) events → OnSource events
called_on_source start items events each =
    All-weaker (IsCallOn Source (Frees start) items) (λ event. is_on part.Source event ≡ true) (λ event call. ap (is_on part.Source) call.is) events each

abbrev sync_of : Bool → Tree → List Event
sync_of b tree = if b then synced Source tree ∷ [] else []

sync_on_source : (b : Bool) (tree : Tree) → OnSource (sync_of b tree)
sync_on_source true tree = All-cons (λ event. is_on part.Source event ≡ true) (synced Source tree) [] refl (All-nil (λ event. is_on part.Source event ≡ true))
sync_on_source false tree = All-nil (λ event. is_on part.Source event ≡ true)

pub calls_go_on : (start : Told) (items : List Item) (old new : List Event) → LogsCallsOn Source (Frees start) items old new → GoesOn old new
calls_go_on start items old new calls = record { since = calls.events; is = calls.is; each = called_on_source start items calls.events calls.each }

pub pass_goes_on : (start : Told) (items : List Item) (b : Bool) (tree : Tree) (old new : List Event) → LogsPassOn Source b (Frees start) items tree old new → GoesOn old new
pass_goes_on start items b tree old new pass = record {
  since = pass.called.events ++ sync_of b tree;
  is = pass.is ∙ ap (λ (events : List Event). events ++ sync_of b tree) pass.called.is ∙ append_assoc old pass.called.events (sync_of b tree);
  each = All-append (λ event. is_on part.Source event ≡ true) pass.called.events (sync_of b tree) (called_on_source start items pass.called.events pass.called.each) (sync_on_source b tree);
}

-- Both sides

pub releases_last : (copying : Copying) (items : List Item) (start mid end : Seen) → LogsOn part.Target start.log mid.log → HaveGoals copying items start.told mid.told.target → IsLastingOn Target items mid.log mid.told.target → end.told.target ≡ mid.told.target → GoesOn mid.log end.log → ReleasesLast copying items start end
releases_last copying items start mid end before goals lasting same goes = inr (record {
  moment = mid.log;
  before = before;
  goals = subst (λ (t : Tree). HaveGoals copying items start.told t) (sym same) goals;
  lasting = subst (λ (t : Tree). IsLastingOn Target items mid.log t) (sym same) lasting;
  since = goes.since;
  is = goes.is;
  on_source = goes.each;
})

-- the law of a pass over the source
abbrev Lasts : Type 0
Lasts = (start : Told) (items : List Item) (tree : Tree) (old new : List Event) → LogsPassOn Source true (Frees start) items tree old new → IsOnlyTree Source new tree

pub lasting_on_both : (items : List Item) (mid end : Seen) → Lasts → IsLastingOn Target items mid.log mid.told.target → LogsOn part.Source mid.log end.log → end.told.target ≡ mid.told.target → LogsPassOn Source (frees_any items) (Frees mid.told) items end.told.source mid.log end.log → IsLasting items end
lasting_on_both items mid end law lasting logs same pass Target changes =
    only_behind mid.log end.log end.told.target logs (subst (λ (t : Tree). IsOnlyTree Target mid.log t) (sym same) (lasting changes))
lasting_on_both items mid end law lasting logs same pass Source changes =
    law mid.told items end.told.source mid.log end.log (subst (λ (b : Bool). LogsPassOn Source b (Frees mid.told) items end.told.source mid.log end.log) changes pass)

pub changes_both : (tells : Bool) (cause : Cause) (last : Cause) (start mid end : Seen) → CopiesFiles tells free start mid → ChangesSide tells Source last mid end → Counts cause start.faults end.faults → ChangesTrees tells cause start end
changes_both tells cause last start mid end copies frees counts = record {
  notes = λ told. frees.notes told ∙ copies.notes told;
  bound = frees.bound ∙ copies.bound;
  counts = counts;
}
