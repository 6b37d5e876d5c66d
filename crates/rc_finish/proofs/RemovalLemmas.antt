-- What can be removed: an entry in which nothing stands, by the time that its turn comes.
use Rattle.std.proofs.Common.{◌≡◌, ◌≢◌, ℕ, ◌+◌, ◌<◌, Bool, true, false, cond, List, [], ◌∷◌, ◌++◌, Option, Some, None, drop, get_or, length, replicate, refl, ap, ◌∙◌, arith, length-append}
use Rattle.std.proofs.lemmas.List.Elements.{All-replicate}
use Rattle.std.specs.Prelude.{IsSomeAnd}
use Rattle.std.specs.FinMap.{get}
use Rattle.std.specs.Cmp.{tied_itself}
use Rattle.std.specs.Ordering.{ordering_then}
use Rattle.std.specs.declared.cmp.Ordering.TheVariants.{Less}
use Rattle.rc_tree.specs.Path.{key_cmp, key_of}
use Rattle.rc_tree.specs.Tree.{Node, Tree}
use Rattle.rc_tree.proofs.Keys.{name_cmp-total}
use Rattle.rc_class.specs.declared.decision.Act.{Act}
use Rattle.rc_class.specs.declared.decision.After.{After}
use Rattle.rc_class.specs.declared.item.Item.{Item}
use Rattle.rc_class.specs.Goal.{released}
use Rattle.rc_class.specs.Items.{are_rising, item_at}
use Rattle.rc_volume.specs.declared.site.Side.{Side}
use Rattle.rc_volume.specs.Log.{EntryCall, Event, changed}
use Rattle.rc_volume.specs.Site.{Told, node_at, other_side, tree_of}
use Rattle.rc_finish.specs.Calls.{IsCallOn, LogsCallsOn, LogsEach}
use Rattle.rc_finish.specs.Passes.{freed, is_purge, pass_at, purged, AreWhole, HasPassedOn, IsBare, Pass, ToPurge, ToRemove}
use Rattle.rc_finish.proofs.ItemKeys.{back_has, own_item}

-- what is gone can't go once more
abbrev pub gone : Option Node → Option Node
gone o = None

pub gone_again : (o : Option Node) → gone (gone o) ≡ gone o
gone_again o = refl

longer : (key : List (List ℕ)) (name : List ℕ) → key ++ name ∷ [] ≢ key
longer key name same =
    let lengths : length (key ++ name ∷ []) ≡ length key = ap (λ (k : List (List ℕ)). length k) same in
    omega (arith, lengths, length-append key (name ∷ []))

-- a change at the key alone leaves nothing in it
pub still_bare : (old new : Tree) (key : List (List ℕ)) → IsBare old key → ((other : List (List ℕ)) → other ≢ key → get new other ≡ get old other) → IsBare new key
still_bare old new key bare others name = others (key ++ name ∷ []) (longer key name) ∙ bare name

-- what stands in a directory comes behind it
below_longer : (key : List (List ℕ)) (name : List ℕ) → key_cmp key (key ++ name ∷ []) ≡ Less
below_longer [] name = refl
below_longer (first ∷ key) name =
    ap (λ r. ordering_then r (key_cmp key (key ++ name ∷ []))) (tied_itself name_cmp-total first) ∙ below_longer key name

there_own : (own : Item → Type 0) (o : Option Item) → IsSomeAnd o own → (item : Item) × (o ≡ Some item) × own item
there_own own None is = absurd is
there_own own (Some item) is = (item, refl, is)

some_there : (o : Option Node) (node : Node) → o ≡ Some node → o ≢ None
some_there o node e none = cc

-- a pass that leaves nothing at the keys of its own items, and makes nothing where nothing is
module _ (side : Side) (pass : Pass) (own : Item → Type 0) (none : (item : Item) (other : Option Node) → pass item other None ≡ None) (goes : (item : Item) (other here : Option Node) → own item → pass item other here ≡ None) where
  nothing : (found : Option Item) (other : Option Node) → pass_at pass found other None ≡ None
  nothing None other = refl
  nothing (Some item) other = none item other

  pub bare_now : (items : List Item) (i : ℕ) (item : Item) (start : Told) (now : Tree) → are_rising items ≡ true → i < length items → item ≡ get_or items i item → AreWhole own items (tree_of start side) → HasPassedOn side pass (drop (i + 1) items) start now → own item → IsBare now (key_of item.path)
  bare_now items i item start now rising l is whole sofar mine name = sofar below ∙ by (node_at start side below) refl
    where
      below : List (List ℕ)
      below = key_of item.path ++ name ∷ []

      other : Option Node
      other = node_at start (other_side side) below

      by : (o : Option Node) → node_at start side below ≡ o → pass_at pass (item_at (drop (i + 1) items) below) other (node_at start side below) ≡ None
      by None e = ap (pass_at pass (item_at (drop (i + 1) items) below) other) e ∙ nothing (item_at (drop (i + 1) items) below) other
      by (Some node) e =
          let found = there_own own (item_at items below) (whole (key_of item.path) item (name ∷ []) (own_item items i item rising l is) mine (some_there (node_at start side below) node e)) in
          ap (λ o. pass_at pass o other (node_at start side below)) (back_has items i item below found.0 rising l is (below_longer (key_of item.path) name) found.1)
          ∙ goes found.0 other (node_at start side below) found.2

-- Purging

pub purged_none : (item : Item) (other : Option Node) → purged item other None ≡ None
purged_none item other = by (is_purge item.act) None refl
  where
    by : (b : Bool) (o : Option Node) → o ≡ None → cond b None o ≡ None
    by true o e = refl
    by false o e = e

pub purged_goes : (item : Item) (other here : Option Node) → ToPurge item → purged item other here ≡ None
purged_goes item other here is = ap (λ (does : Act). cond (is_purge does) None here) is

-- Sources

pub freed_none : (item : Item) (other : Option Node) → freed item other None ≡ None
freed_none item other = refl

pub freed_goes : (item : Item) (other here : Option Node) → ToRemove item → freed item other here ≡ None
freed_goes item other None is = refl
freed_goes item other (Some node) is = ap (λ (after : After). released after node) is

-- The calls at the key of one item

pub each_calls : (side : Side) (calls : Item → EntryCall → Type 0) (item : Item) (call : EntryCall) (old new : List Event) → calls item call → LogsEach (changed side (key_of item.path) call) old new → LogsCallsOn side calls (item ∷ []) old new
each_calls side calls item call old new allowed each = record {
  events = replicate each.0 (changed side (key_of item.path) call);
  each = All-replicate (IsCallOn side calls (item ∷ [])) each.0 (changed side (key_of item.path) call) (record {
    item = item;
    has = (0, omega arith, refl);
    call = call;
    allowed = allowed;
    is = refl;
  });
  is = each.1;
}
