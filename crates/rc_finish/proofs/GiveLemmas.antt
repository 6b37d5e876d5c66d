-- How properties are given to one entry, once both sides were looked at.
use Rattle.std.proofs.Common.{◌≡◌, ℕ, Bool, true, cond, List, [], ◌∷◌, Option, Some, None, replicate, refl, sym, ap, subst, ◌∙◌, inl, inr, arith, append-nil}
use Rattle.std.proofs.lemmas.List.Elements.{All-nil, All-replicate}
use Rattle.std.specs.Prelude.{Result, Ok, Err, option_map}
use Rattle.std.specs.FinMap.{get}
use Rattle.rc_tree.specs.declared.entry.Entry.{Entry}
use Rattle.rc_tree.specs.declared.props.Props.{Props}
use Rattle.rc_tree.specs.Path.{key_of}
use Rattle.rc_tree.specs.Tree.{Node, Tree}
use Rattle.rc_class.specs.declared.decision.Act.{Act}
use Rattle.rc_class.specs.declared.item.Item.{Item}
use Rattle.rc_class.specs.declared.rules.Rules.{Rules}
use Rattle.rc_volume.specs.declared.site.Side.{Side}
use Rattle.rc_volume.specs.declared.site.Side.TheVariants.{Target}
use Rattle.rc_volume.specs.Faults.{free, part_for}
use Rattle.rc_volume.specs.Frames.{ChangesAt, ChangesOnly, Looks}
use Rattle.rc_volume.specs.Log.{EntryCall, Event, changed, set_props}
use Rattle.rc_volume.specs.Site.{Change, Seen, Told, entry_of, node_at, with_props}
use Rattle.rc_volume.proofs.ImageLemmas.{logs_behind}
use Rattle.rc_finish.specs.declared.err.FinishErr.{FinishErr}
use Rattle.rc_finish.specs.Calls.{finish_cause, Gives, IsCallFor, LogsCalls, LogsGiven}
use Rattle.rc_finish.specs.Passes.{given, gives_props, props_given, with_given, Ends, Pass}
use Rattle.rc_finish.proofs.PassLemmas.{counts_then}

pub same_entry : (old : Entry) (node : Node) → Some old ≡ Some (entry_of node) → old ≡ entry_of node
same_entry old node e = cc

pub none_entry : (old : Entry) → Some old ≡ None → ⊥
none_entry old e = cc

-- the given properties are those that the act gives to what stands there
pub same_given : (rules : Rules) (moment : ℕ) (does : Act) (from props : Props) (old : Entry) (o : Option Node) → Some old ≡ option_map entry_of o → props ≡ props_given rules moment does from old.props → option_map (with_props props) o ≡ option_map (with_given rules moment does from) o
same_given rules moment does from props old None found is = absurd (none_entry old found)
same_given rules moment does from props old (Some node) found is =
    ap (λ (p : Props). Some (with_props p node)) (is ∙ ap (λ (e : Entry). props_given rules moment does from e.props) (same_entry old node found))

-- and what the pass makes of it
pub given_so : (rules : Rules) (moment : ℕ) (item : Item) (from : Entry) (source target : Option Node) → gives_props item.act ≡ true → Some from ≡ option_map entry_of source → option_map (with_given rules moment item.act from.props) target ≡ given rules moment item source target
given_so rules moment item from None target own found = absurd (none_entry from found)
given_so rules moment item from (Some node) target own found =
    ap (λ (e : Entry). option_map (with_given rules moment item.act e.props) target) (same_entry from node found)
    ∙ ap (λ b. cond b (option_map (with_given rules moment item.act node.props) target) target) (sym own)

-- Frames

pub ends_so : (result : Result (Unit {0}) FinishErr) (one other : Change) (o n : Option Node) → (one o n → other o n) → Ends result one o n → Ends result other o n
ends_so (Ok value) one other o n weaker h = weaker h
ends_so (Err e) one other o n weaker (inl stays) = inl stays
ends_so (Err e) one other o n weaker (inr done) = inr (weaker done)

-- a look, and then a change at one key
pub look_then : (side : Side) (tells : Bool) (key : List (List ℕ)) (one other : Change) (retries : ℕ) (result : Result (Unit {0}) FinishErr) (start mid new : Seen) → Looks tells free start mid → (tells ≡ true → (n : Option Node) → one (node_at start.told side key) n → other (node_at start.told side key) n) → ChangesAt tells side key (Ends result one) (finish_cause retries result) mid new → ChangesAt tells side key (Ends result other) (finish_cause retries result) start new
look_then side tells key one other retries result start mid new f weaker g = record {
  here = λ t. ends_so result one other (node_at start.told side key) (node_at new.told side key) (weaker t (node_at new.told side key))
      (subst (λ (told : Told). Ends result one (node_at told side key) (node_at new.told side key)) (f.told t) (g.here t));
  elsewhere = λ t. subst (λ (told : Told). ChangesOnly side key told new.told) (f.told t) (g.elsewhere t);
  log = λ t. logs_behind (part_for side) _ _ _ (f.log t) (g.log t);
  opened = g.opened ∙ f.opened;
  bound = g.bound ∙ f.bound;
  counts = counts_then retries result start.faults mid.faults new.faults f.counts g.counts;
}

-- Calls

pub calls_given : (rules : Rules) (moment : ℕ) (item : Item) (from : Entry) (start : Told) (old new : List Event) → gives_props item.act ≡ true → Some from ≡ option_map entry_of (get start.source (key_of item.path)) → LogsGiven rules moment item from.props (get start.target (key_of item.path)) old new → LogsCalls (Gives (given rules moment) start) (item ∷ []) old new
calls_given rules moment item from start old new own found logs = by (get start.target (key_of item.path)) refl logs
  where
    key : List (List ℕ)
    key = key_of item.path

    by : (o : Option Node) → get start.target key ≡ o → LogsGiven rules moment item from.props o old new → LogsCalls (Gives (given rules moment) start) (item ∷ []) old new
    by None e same = record {
      events = [];
      each = All-nil (IsCallFor (Gives (given rules moment) start) (item ∷ []));
      is = same ∙ sym (append-nil old);
    }
    by (Some node) e each =
        let props = props_given rules moment item.act from.props node.props in
        let made : given rules moment item (get start.source key) (get start.target key) ≡ Some (with_given rules moment item.act from.props node) = sym (given_so rules moment item from (get start.source key) (get start.target key) own found) ∙ ap (option_map (with_given rules moment item.act from.props)) e in
        record {
          events = replicate each.0 (changed Target key (set_props props));
          each = All-replicate (IsCallFor (Gives (given rules moment) start) (item ∷ [])) each.0 (changed Target key (set_props props)) (record {
            item = item;
            has = (0, omega arith, refl);
            call = set_props props;
            allowed = (own, ap (λ (o : Option Node). option_map set_props (option_map (λ (node : Node). node.props) o)) made);
            is = refl;
          });
          is = each.1;
        }

-- what is given to an item, said of two sites that have the same at its key
pub gives_at : (pass : Pass) (start mid : Told) (item : Item) (call : EntryCall) → mid.source ≡ start.source → get mid.target (key_of item.path) ≡ get start.target (key_of item.path) → Gives pass mid item call → Gives pass start item call
gives_at pass start mid item call source target h = (
  h.0,
  ap (λ (o : Option Node). option_map set_props (option_map (λ (node : Node). node.props) o))
      (sym (ap (λ (tree : Tree). pass item (get tree (key_of item.path)) (get mid.target (key_of item.path))) source ∙ ap (pass item (get start.source (key_of item.path))) target)) ∙ h.1,
)
