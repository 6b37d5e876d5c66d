-- How a pass comes on by one item, whatever it makes of it, and what its calls are.
use Rattle.std.proofs.Common.{◌≡◌, ◌≢◌, ◌⊎◌, ℕ, zero, suc, Bool, true, false, cond, List, [], ◌∷◌, ◌++◌, Option, Some, None, get_or, ◌<◌, refl, sym, ap, subst, ◌∙◌, inl, inr, arith, append_assoc}
use Rattle.std.proofs.lemmas.Bool.{true≢false}
use Rattle.std.proofs.lemmas.List.Elements.{All-append}
use Rattle.std.specs.Prelude.{Contains, OnOk, Result, Ok, Err}
use Rattle.std.specs.FinMap.{get}
use Rattle.std.specs.Ordering.{eq_by_cmp}
use Rattle.rc_tree.specs.Path.{key_of, key_cmp}
use Rattle.rc_tree.specs.Tree.{IsTree, Node, Tree}
use Rattle.rc_tree.proofs.Keys.{same_key, key_itself}
use Rattle.rc_class.specs.declared.item.Item.{Item}
use Rattle.rc_class.specs.Items.{item_at}
use Rattle.rc_volume.specs.declared.site.Part.{Part}
use Rattle.rc_volume.specs.declared.site.Side.{Side}
use Rattle.rc_volume.specs.Faults.{Counts, free, part_for}
use Rattle.rc_volume.specs.Frames.{ChangesAt, ChangesSide, Syncs}
use Rattle.rc_volume.specs.Images.{IsOnlyTree}
use Rattle.rc_volume.specs.Log.{Event, EntryCall, changed, synced}
use Rattle.rc_volume.specs.Site.{Change, Maybe, Seen, Told, node_at, other_side, tree_of}
use Rattle.rc_volume.proofs.ImageLemmas.{logs_then, only_tree}
use Rattle.rc_finish.specs.declared.err.FinishErr.{FinishErr}
use Rattle.rc_finish.specs.declared.err.FinishErr.TheVariants as finish_err
use Rattle.rc_finish.specs.Calls.{finish_cause, IsCallOn, LogsCallsOn, LogsPassOn, SyncsWhere}
use Rattle.rc_finish.specs.Passes.{pass_at, passed_on, HasPassedOn, IsNow, IsPassingOn, Pass}

module _ (side : Side) (pass : Pass) (start : Told) where
  -- before its turn an item's key has what it had
  pub still : (done : List Item) (item : Item) (now : Tree) → item_at done (key_of item.path) ≡ None → HasPassedOn side pass done start now → get now (key_of item.path) ≡ node_at start side (key_of item.path)
  still done item now missing sofar =
      sofar (key_of item.path) ∙ ap (λ o. pass_at pass o (node_at start (other_side side) (key_of item.path)) (node_at start side (key_of item.path))) missing

  -- one more item
  pub pass_more : (done more : List Item) (item : Item) (now new : Tree) → ((key : List (List ℕ)) → item_at more key ≡ cond (eq_by_cmp key_cmp key (key_of item.path)) (Some item) (item_at done key)) → item_at done (key_of item.path) ≡ None → HasPassedOn side pass done start now → IsNow (pass item (node_at start (other_side side) (key_of item.path))) (get now (key_of item.path)) (get new (key_of item.path)) → ((other : List (List ℕ)) → other ≢ key_of item.path → get new other ≡ get now other) → HasPassedOn side pass more start new
  pass_more done more item now new grown missing sofar here others key =
      by (eq_by_cmp key_cmp key (key_of item.path)) refl
      ∙ ap (λ o. pass_at pass o (node_at start (other_side side) key) (node_at start side key)) (sym (grown key))
    where
      at_own : get new (key_of item.path) ≡ pass item (node_at start (other_side side) (key_of item.path)) (node_at start side (key_of item.path))
      at_own = here ∙ ap (pass item (node_at start (other_side side) (key_of item.path))) (still done item now missing sofar)

      by : (b : Bool) → eq_by_cmp key_cmp key (key_of item.path) ≡ b → get new key ≡ pass_at pass (cond b (Some item) (item_at done key)) (node_at start (other_side side) key) (node_at start side key)
      by true e = subst (λ (k : List (List ℕ)). get new k ≡ pass item (node_at start (other_side side) k) (node_at start side k)) (sym (same_key key (key_of item.path) e)) at_own
      by false e = others key (λ same. true≢false (sym (key_itself key) ∙ ap (eq_by_cmp key_cmp key) same ∙ e)) ∙ sofar key

  -- where some of the items have passed each key is as it was, or its item has passed
  pub passing : (items done : List Item) (now : Tree) → ((key : List (List ℕ)) (item : Item) → item_at done key ≡ Some item → item_at items key ≡ Some item) → HasPassedOn side pass done start now → IsPassingOn side pass items start now
  passing items done now found sofar key = by (item_at done key) refl
    where
      by : (o : Option Item) → item_at done key ≡ o → (get now key ≡ node_at start side key) ⊎ (get now key ≡ passed_on side pass items start key)
      by None e = inl (sofar key ∙ ap (λ o. pass_at pass o (node_at start (other_side side) key) (node_at start side key)) e)
      by (Some item) e = inr (sofar key ∙ ap (λ o. pass_at pass o (node_at start (other_side side) key) (node_at start side key)) (e ∙ sym (found key item e)))

  -- and where the next one ends in an error
  pub passing_failed : (items done : List Item) (item : Item) (now new : Tree) → ((key : List (List ℕ)) (other : Item) → item_at done key ≡ Some other → item_at items key ≡ Some other) → item_at items (key_of item.path) ≡ Some item → item_at done (key_of item.path) ≡ None → HasPassedOn side pass done start now → Maybe (IsNow (pass item (node_at start (other_side side) (key_of item.path)))) (get now (key_of item.path)) (get new (key_of item.path)) → ((other : List (List ℕ)) → other ≢ key_of item.path → get new other ≡ get now other) → IsPassingOn side pass items start new
  passing_failed items done item now new found own missing sofar here others key = by (eq_by_cmp key_cmp key (key_of item.path)) refl
    where
      was : get now (key_of item.path) ≡ node_at start side (key_of item.path)
      was = still done item now missing sofar

      at_own : Maybe (IsNow (pass item (node_at start (other_side side) (key_of item.path)))) (get now (key_of item.path)) (get new (key_of item.path)) → (get new (key_of item.path) ≡ node_at start side (key_of item.path)) ⊎ (get new (key_of item.path) ≡ passed_on side pass items start (key_of item.path))
      at_own (inl stays) = inl (stays ∙ was)
      at_own (inr did) = inr (did ∙ ap (pass item (node_at start (other_side side) (key_of item.path))) was ∙ ap (λ o. pass_at pass o (node_at start (other_side side) (key_of item.path)) (node_at start side (key_of item.path))) (sym own))

      by : (b : Bool) → eq_by_cmp key_cmp key (key_of item.path) ≡ b → (get new key ≡ node_at start side key) ⊎ (get new key ≡ passed_on side pass items start key)
      by true e = subst (λ (k : List (List ℕ)). (get new k ≡ node_at start side k) ⊎ (get new k ≡ passed_on side pass items start k)) (sym (same_key key (key_of item.path) e)) (at_own here)
      by false e =
          let stays : get new key ≡ get now key = others key (λ same. true≢false (sym (key_itself key) ∙ ap (eq_by_cmp key_cmp key) same ∙ e)) in
          subst (λ (o : Option Node). (o ≡ node_at start side key) ⊎ (o ≡ passed_on side pass items start key)) (sym stays) (passing items done now found sofar key)

-- The frame of a pass

pub counts_then : (retries : ℕ) (result : Result (Unit {0}) FinishErr) (a b c : Part → ℕ) → Counts free a b → Counts (finish_cause retries result) b c → Counts (finish_cause retries result) a c
counts_then retries (Ok value) a b c first second = λ at. omega (arith, first at, second at)
counts_then retries (Err (finish_err.SiteFault side)) a b c first second =
    (omega (arith, first (part_for side), second.0), λ at. omega (arith, first at, second.1 at))
counts_then retries (Err finish_err.NoMemory) a b c first second = λ at. omega (arith, first at, second at)

pub side_then : (side : Side) (tells : Bool) (key : List (List ℕ)) (change : Change) (retries : ℕ) (result : Result (Unit {0}) FinishErr) (start mid new : Seen) → ChangesSide tells side free start mid → ChangesAt tells side key change (finish_cause retries result) mid new → ChangesSide tells side (finish_cause retries result) start new
side_then side tells key change retries result start mid new f g = record {
  other_tree = λ t. (g.elsewhere t).other_tree ∙ f.other_tree t;
  notes = λ t. (g.elsewhere t).notes ∙ f.notes t;
  log = λ t. logs_then (part_for side) _ _ _ (f.log t) (g.log t);
  opened = g.opened ∙ f.opened;
  bound = g.bound ∙ f.bound;
  counts = counts_then retries result start.faults mid.faults new.faults f.counts g.counts;
}

-- The log

pub calls_then : (side : Side) (calls : Item → EntryCall → Type 0) (items : List Item) (old mid new : List Event) → LogsCallsOn side calls items old mid → LogsCallsOn side calls items mid new → LogsCallsOn side calls items old new
calls_then side calls items old mid new first second = record {
  events = first.events ++ second.events;
  each = All-append (IsCallOn side calls items) first.events second.events first.each second.each;
  is = second.is ∙ ap (λ (log : List Event). log ++ second.events) first.is ∙ append_assoc old first.events second.events;
}

pub calls_behind : (side : Side) (calls : Item → EntryCall → Type 0) (items : List Item) (old mid new : List Event) → new ≡ mid → LogsCallsOn side calls items old mid → LogsCallsOn side calls items old new
calls_behind side calls items old mid new same = subst (λ (log : List Event). LogsCallsOn side calls items old log) (sym same)

only_one : (item other : Item) → Contains (item ∷ []) other → item ≡ other
only_one item other has = by has.0 has.1 has.2
  where
    by : (k : ℕ) → k < 1 → get_or (item ∷ []) k other ≡ other → item ≡ other
    by zero l e = e
    by (suc k) l e = absurd (omega (arith, l))

-- calls for one of the items, in other words
pub calls_of : (side : Side) (calls allowed : Item → EntryCall → Type 0) (items : List Item) (item : Item) (old new : List Event) → Contains items item → ((call : EntryCall) → calls item call → allowed item call) → LogsCallsOn side calls (item ∷ []) old new → LogsCallsOn side allowed items old new
calls_of side calls allowed items item old new has weaker log = record {
  events = log.events;
  each = λ k d l. one (get_or log.events k d) (log.each k d l);
  is = log.is;
}
  where
    one : (event : Event) → IsCallOn side calls (item ∷ []) event → IsCallOn side allowed items event
    one event is =
        let same = only_one item is.item is.has in
        record {
          item = item;
          has = has;
          call = is.call;
          allowed = weaker is.call (subst (λ (x : Item). calls x is.call) (sym same) is.allowed);
          is = is.is ∙ ap (λ (x : Item). changed side (key_of x.path) is.call) (sym same);
        }

-- The sync behind a pass

pub side_synced : (side : Side) (tells : Bool) (retries : ℕ) (result : Result (Unit {0}) FinishErr) (start mid new : Seen) → ChangesSide tells side free start mid → Syncs tells (part_for side) (finish_cause retries result) mid new → ChangesSide tells side (finish_cause retries result) start new
side_synced side tells retries result start mid new f g = record {
  other_tree = λ t. ap (λ (told : Told). tree_of told (other_side side)) (g.told t) ∙ f.other_tree t;
  notes = λ t. ap (λ (told : Told). told.notes) (g.told t) ∙ f.notes t;
  log = λ t. logs_then (part_for side) _ _ _ (f.log t) (g.log t);
  opened = g.opened ∙ f.opened;
  bound = g.bound ∙ f.bound;
  counts = counts_then retries result start.faults mid.faults new.faults f.counts g.counts;
}

-- at Ok the log ends with the sync, where one is asked for
pub pass_synced : (side : Side) (result : Result (Unit {0}) FinishErr) (asked is_synced : Bool) (calls : Item → EntryCall → Type 0) (items : List Item) (mid new : Told) (old before log : List Event) → asked ≡ is_synced → new ≡ mid → LogsCallsOn side calls items old before → SyncsWhere side asked result (tree_of mid side) before log → (asked ≡ true → OnOk result (IsTree (tree_of mid side))) → OnOk result (LogsPassOn side is_synced calls items (tree_of new side) old log)
pass_synced side (Ok value) asked is_synced calls items mid new old before log is same called logs tree = record {
  before = before;
  called = called;
  is = logs ∙ ap (λ (b : Bool). before ++ cond b (synced side (tree_of mid side) ∷ []) []) is ∙ ap (λ (told : Told). before ++ cond is_synced (synced side (tree_of told side) ∷ []) []) (sym same);
  reads = λ synced. subst (λ (told : Told). IsTree (tree_of told side)) (sym same) (tree (is ∙ synced));
}
pass_synced side (Err e) asked is_synced calls items mid new old before log is same called logs tree = tt

-- so a stop leaves what reads, and nothing else
pub pass_durable : (side : Side) (calls : Item → EntryCall → Type 0) (items : List Item) (tree : Tree) (old new : List Event) → LogsPassOn side true calls items tree old new → IsOnlyTree side new tree
pass_durable side calls items tree old new log =
    subst (λ (events : List Event). IsOnlyTree side events tree) (sym log.is) (only_tree side log.before tree (log.reads refl))
