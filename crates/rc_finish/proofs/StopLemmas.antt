-- What a stop may leave of a side in the middle of a pass.
use Rattle.std.proofs.Common.{◌≡◌, ◌≢◌, ◌⊎◌, ℕ, ◌≤◌, Bool, true, false, List, [], ◌∷◌, Option, Some, None, length, refl, sym, ap, subst, ◌∙◌, inl, inr, arith}
use Rattle.std.proofs.lemmas.Bool.{true≢false}
use Rattle.std.proofs.lemmas.List.Elements.{All-head, All-tail}
use Rattle.std.specs.Prelude.{All, option_map, IsSomeAnd}
use Rattle.std.specs.FinMap.{get}
use Rattle.std.specs.Ordering.{eq_by_cmp}
use Rattle.rc_tree.specs.declared.props.Props.{Props}
use Rattle.rc_tree.specs.Path.{key_cmp, key_of, last_name}
use Rattle.rc_tree.specs.Tree.{Node, Tree}
use Rattle.rc_tree.proofs.Keys.{key_itself, same_key}
use Rattle.rc_class.specs.declared.decision.After.{After}
use Rattle.rc_class.specs.declared.decision.After.TheVariants.{Nothing, RemoveSource, ClearArchive}
use Rattle.rc_class.specs.declared.item.Item.{Item}
use Rattle.rc_class.specs.Items.{are_rising, item_at}
use Rattle.rc_volume.specs.declared.site.Side.{Side}
use Rattle.rc_volume.specs.declared.site.Side.TheVariants.{Source, Target}
use Rattle.rc_volume.specs.Images.{AllNoSync, AreMixed, GoesBy, Half, HasProps, IsMade, IsMadeOver, IsNoSync, MayLeave, StepsBy}
use Rattle.rc_volume.specs.Log.{EntryCall, Event, changed, remove, set_props}
use Rattle.rc_volume.specs.Site.{Maybe, Told, Turns, fresh_dir}
use Rattle.rc_volume.proofs.ImageLemmas.{came_by}
use Rattle.rc_finish.specs.Calls.{freeing, Frees, Gives, IsCallOn, IsLeftAfter, IsLeftAfterOn, IsLeftBy, LogsCalls, LogsCallsOn, Makes, Purges}
use Rattle.rc_finish.specs.Passes.{Pass, without_archive}
use Rattle.rc_finish.proofs.ItemKeys.{own_item}

-- The same call twice

either : {A : Type 0} (one other mid new : A) → (mid ≡ one) ⊎ (mid ≡ other) → (new ≡ mid) ⊎ (new ≡ other) → (new ≡ one) ⊎ (new ≡ other)
either one other mid new first (inr e) = inr e
either one other mid new (inl f) (inl e) = inl (e ∙ f)
either one other mid new (inr f) (inl e) = inr (e ∙ f)

only : {A : Type 0} (one new : A) → (new ≡ one) ⊎ (new ≡ one) → new ≡ one
only one new (inl e) = e
only one new (inr e) = e

mixed_then : (old given mid new : Props) → AreMixed old given mid → AreMixed mid given new → AreMixed old given new
mixed_then old given mid new f s = record {
  attr = either old.attr given.attr mid.attr new.attr f.attr s.attr;
  created = either old.created given.created mid.created new.created f.created s.created;
  written = either old.written given.written mid.written new.written f.written s.written;
  access = either old.access given.access mid.access new.access f.access s.access;
  owner = either old.owner given.owner mid.owner new.owner f.owner s.owner;
  audit = either old.audit given.audit mid.audit new.audit f.audit s.audit;
}

mixed_same : (p q : Props) → AreMixed p p q → q ≡ p
mixed_same p q m = λ i. record {
  attr = only p.attr q.attr m.attr i;
  created = only p.created q.created m.created i;
  written = only p.written q.written m.written i;
  access = only p.access q.access m.access i;
  owner = only p.owner q.owner m.owner i;
  audit = only p.audit q.audit m.audit i;
}

made_over_then : (fresh old mid new : Node) → IsMadeOver fresh old mid → IsMadeOver fresh mid new → IsMadeOver fresh old new
made_over_then fresh old mid new f s = record {
  spelling = either old.spelling fresh.spelling mid.spelling new.spelling f.spelling s.spelling;
  kind = either old.kind fresh.kind mid.kind new.kind f.kind s.kind;
  props = mixed_then old.props fresh.props mid.props new.props f.props s.props;
  no_longer = omega (arith, f.no_longer, s.no_longer);
}

no_bytes : (some none : List ℕ) → none ≡ [] → length some ≤ length none → some ≡ none
no_bytes [] none e l = sym e
no_bytes (b ∷ some) none e l = let n : length none ≡ 0 = ap (λ (bytes : List ℕ). length bytes) e in absurd (omega (arith, l, n))

made_over_same : (fresh new : Node) → fresh.bytes ≡ [] → IsMadeOver fresh fresh new → new ≡ fresh
made_over_same fresh new none m = λ i. record {
  spelling = only fresh.spelling new.spelling m.spelling i;
  kind = only fresh.kind new.kind m.kind i;
  bytes = no_bytes new.bytes fresh.bytes none m.no_longer i;
  props = mixed_same fresh.props new.props m.props i;
}

made_then : (fresh : Node) → fresh.bytes ≡ [] → (o m n : Option Node) → IsMade fresh o m → IsMade fresh m n → IsMade fresh o n
made_then fresh none None m n first second = by n (subst (λ (x : Option Node). IsMade fresh x n) first second)
  where
    by : (n : Option Node) → IsSomeAnd n (IsMadeOver fresh fresh) → n ≡ Some fresh
    by None h = absurd h
    by (Some new) h = ap (λ (x : Node). Some x) (made_over_same fresh new none h)
made_then fresh none (Some old) None n first second = absurd first
made_then fresh none (Some old) (Some mid) None first second = absurd second
made_then fresh none (Some old) (Some mid) (Some new) first second = made_over_then fresh old mid new first second

props_then : (given : Props) (o m n : Option Node) → Turns (HasProps given) o m → Turns (HasProps given) m n → Turns (HasProps given) o n
props_then given o m n f s =
    let same : s.before ≡ f.now = same_some s.before f.now (sym s.was ∙ f.is) in
    record {
      before = f.before;
      now = s.now;
      was = f.was;
      is = s.is;
      by = record {
        rest = s.by.rest ∙ ap (λ (x : Node). record x { props = s.now.props }) (same ∙ f.by.rest);
        props = mixed_then f.before.props given f.now.props s.now.props f.by.props (subst (λ (x : Node). AreMixed x.props given s.now.props) same s.by.props);
      };
    }
  where
    same_some : (x y : Node) → Some x ≡ Some y → x ≡ y
    same_some x y e = cc

-- The calls of a pass, one after another

step_at : (side : Side) (key at : List (List ℕ)) (call : EntryCall) (o m : Option Node) → StepsBy side key (changed side at call) o m → (at ≡ key → Maybe (Half call) o m) × (at ≢ key → m ≡ o)
step_at Source key at call o m step = step
step_at Target key at call o m step = step

no_sync : (side : Side) (at : List (List ℕ)) (call : EntryCall) → IsNoSync side (changed side at call)
no_sync Source at call = tt
no_sync Target at call = tt

module _ (side : Side) (calls : Item → EntryCall → Type 0) (items : List Item) (rising : are_rising items ≡ true) (once : (item : Item) (c d : EntryCall) → calls item c → calls item d → c ≡ d) (joins : (item : Item) (call : EntryCall) → calls item call → (o m n : Option Node) → Half call o m → Half call m n → Half call o n) where
  abbrev Leaves : List (List ℕ) → Option Node → Option Node → Type 0
  Leaves key o n = (n ≡ o) ⊎ IsLeftBy calls items key o n

  one_event : (key : List (List ℕ)) (event : Event) → IsCallOn side calls items event → (o m : Option Node) → StepsBy side key event o m → Leaves key o m
  one_event key event is o m step = by (eq_by_cmp key_cmp key (key_of is.item.path)) refl
    where
      steps : (key_of is.item.path ≡ key → Maybe (Half is.call) o m) × (key_of is.item.path ≢ key → m ≡ o)
      steps = step_at side key (key_of is.item.path) is.call o m (subst (λ (e : Event). StepsBy side key e o m) is.is step)

      half : key ≡ key_of is.item.path → Maybe (Half is.call) o m → Leaves key o m
      half same (inl stays) = inl stays
      half same (inr did) = inr (record {
        item = is.item;
        decided = ap (item_at items) same ∙ own_item items is.has.0 is.item rising is.has.1 (sym is.has.2);
        call = is.call;
        allowed = is.allowed;
        half = did;
      })

      by : (b : Bool) → eq_by_cmp key_cmp key (key_of is.item.path) ≡ b → Leaves key o m
      by true e = let same = same_key key (key_of is.item.path) e in half same (steps.0 (sym same))
      by false e = inl (steps.1 (λ same. true≢false (sym (key_itself key) ∙ ap (eq_by_cmp key_cmp key) (sym same) ∙ e)))

  leaves_then : (key : List (List ℕ)) (o m n : Option Node) → Leaves key o m → Leaves key m n → Leaves key o n
  leaves_then key o m n (inl stays) (inl e) = inl (e ∙ stays)
  leaves_then key o m n (inl stays) (inr s) = inr (record {
    item = s.item;
    decided = s.decided;
    call = s.call;
    allowed = s.allowed;
    half = subst (λ (x : Option Node). Half s.call x n) stays s.half;
  })
  leaves_then key o m n (inr f) (inl e) = inr (record {
    item = f.item;
    decided = f.decided;
    call = f.call;
    allowed = f.allowed;
    half = subst (λ (x : Option Node). Half f.call o x) (sym e) f.half;
  })
  leaves_then key o m n (inr f) (inr s) =
      let same : s.item ≡ f.item = same_item s.item f.item (sym s.decided ∙ f.decided) in
      let called : s.call ≡ f.call = once f.item s.call f.call (subst (λ (x : Item). calls x s.call) same s.allowed) f.allowed in
      inr (record {
        item = f.item;
        decided = f.decided;
        call = f.call;
        allowed = f.allowed;
        half = joins f.item f.call f.allowed o m n f.half (subst (λ (c : EntryCall). Half c m n) called s.half);
      })
    where
      same_item : (x y : Item) → Some x ≡ Some y → x ≡ y
      same_item x y e = cc

  goes_on : (events : List Event) → All (IsCallOn side calls items) events → (key : List (List ℕ)) (o n : Option Node) → GoesBy side key events o n → Leaves key o n
  goes_on [] each key o n h = inl h
  goes_on (event ∷ events) each key o n h =
      leaves_then key o h.0 n (one_event key event (All-head (IsCallOn side calls items) event events each) o h.0 h.1) (goes_on events (All-tail (IsCallOn side calls items) event events each) key h.0 n h.2)

  no_syncs : (events : List Event) → All (IsCallOn side calls items) events → AllNoSync side events
  no_syncs [] each = tt
  no_syncs (event ∷ events) each =
      let is = All-head (IsCallOn side calls items) event events each in
      (subst (λ (e : Event). IsNoSync side e) (sym is.is) (no_sync side (key_of is.item.path) is.call), no_syncs events (All-tail (IsCallOn side calls items) event events each))

  left_after : (old new : List Event) (image : Tree) → LogsCallsOn side calls items old new → MayLeave side new image → IsLeftAfterOn side calls items old image
  left_after old new image log leaves =
      let came = came_by side old log.events image (no_syncs log.events log.each) (subst (λ (events : List Event). MayLeave side events image) log.is leaves) in
      record {
        old = came.0;
        left = came.1;
        each = λ key. goes_on log.events log.each key (get came.0 key) (get image key) (came.2.each key);
      }

-- Directories

pub made_left : (items : List Item) (old new : List Event) (image : Tree) → are_rising items ≡ true → LogsCalls Makes items old new → MayLeave Target new image → IsLeftAfter Makes items old image
made_left items old new image rising = left_after Target Makes items rising (λ item c d one other. one.1 ∙ sym other.1)
    (λ item call is o m n. subst (λ (c : EntryCall). Half c o m → Half c m n → Half c o n) (sym is.1) (made_then (fresh_dir (last_name item.path)) refl o m n))
    old new image

-- Properties

same_call : (c d : EntryCall) → Some c ≡ Some d → c ≡ d
same_call c d e = cc

given_joins : (found : Option Props) (call : EntryCall) → option_map set_props found ≡ Some call → (o m n : Option Node) → Half call o m → Half call m n → Half call o n
given_joins None call e o m n = absurd (none_some e)
  where
    none_some : None ≡ Some call → ⊥
    none_some e = cc
given_joins (Some props) call e o m n = subst (λ (c : EntryCall). Half c o m → Half c m n → Half c o n) (same_call (set_props props) call e) (props_then props o m n)

pub given_left : (pass : Pass) (start : Told) (items : List Item) (old new : List Event) (image : Tree) → are_rising items ≡ true → LogsCalls (Gives pass start) items old new → MayLeave Target new image → IsLeftAfter (Gives pass start) items old image
given_left pass start items old new image rising = left_after Target (Gives pass start) items rising (λ item c d one other. same_call c d (sym one.1 ∙ other.1))
    (λ item call is. given_joins (option_map (λ node. node.props) (pass item (get start.source (key_of item.path)) (get start.target (key_of item.path)))) call is.1)
    old new image

-- Removals

pub purged_left : (items : List Item) (old new : List Event) (image : Tree) → are_rising items ≡ true → LogsCalls Purges items old new → MayLeave Target new image → IsLeftAfter Purges items old image
purged_left items old new image rising = left_after Target Purges items rising (λ item c d one other. one.1 ∙ sym other.1)
    (λ item call is o m n. subst (λ (c : EntryCall). Half c o m → Half c m n → Half c o n) (sym is.1) (λ first second. second))
    old new image

-- Sources

freed_joins : (after : After) (source : Option Node) (call : EntryCall) → freeing after source ≡ Some call → (o m n : Option Node) → Half call o m → Half call m n → Half call o n
freed_joins Nothing source call e o m n = absurd (none_some e)
  where
    none_some : None ≡ Some call → ⊥
    none_some e = cc
freed_joins RemoveSource source call e o m n = subst (λ (c : EntryCall). Half c o m → Half c m n → Half c o n) (same_call remove call e) (λ first second. second)
freed_joins ClearArchive None call e o m n = absurd (none_some e)
  where
    none_some : None ≡ Some call → ⊥
    none_some e = cc
freed_joins ClearArchive (Some node) call e o m n = subst (λ (c : EntryCall). Half c o m → Half c m n → Half c o n) (same_call (set_props (without_archive node.props)) call e) (props_then (without_archive node.props) o m n)

pub freed_left : (start : Told) (items : List Item) (old new : List Event) (image : Tree) → are_rising items ≡ true → LogsCallsOn Source (Frees start) items old new → MayLeave Source new image → IsLeftAfterOn Source (Frees start) items old image
freed_left start items old new image rising = left_after Source (Frees start) items rising (λ item c d one other. same_call c d (sym one ∙ other))
    (λ item call is. freed_joins item.after (get start.source (key_of item.path)) call is)
    old new image
