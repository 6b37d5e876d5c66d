-- That a plan has just the items that are decided of the keys of both trees.
use Rattle.std.proofs.Common.{◌≡◌, ℕ, Bool, true, false, cond, ◌&&◌, List, [], ◌∷◌, ◌++◌, Option, Some, None, map, refl, sym, ap, subst, ◌∙◌}
use Rattle.std.specs.Prelude.{T, option_map}
use Rattle.std.specs.List.{cons_option, filter_map}
use Rattle.std.specs.Ordering.{eq_by_cmp, is_lt}
use Rattle.std.specs.FinMap.{get, entries, entries_sorted, from_entries, get-entries, get-from_entries}
use Rattle.std.specs.FinMap.Entries.{find, is_sorted, below_all}
use Rattle.rc_tree.specs.Path.{key_of, key_cmp}
use Rattle.rc_tree.specs.Spelled.{spelled}
use Rattle.rc_tree.specs.Tree.{Node, Tree}
use Rattle.rc_tree.proofs.Keys.{key_cmp-total, same_key}
use Rattle.rc_class.specs.declared.item.Item.{Item}
use Rattle.rc_class.specs.declared.plan.Plan.{Plan}
use Rattle.rc_class.specs.Items.{keyed, item_at}
use Rattle.rc_class.specs.Start.{IsPlanOf}
use Rattle.rc_class.proofs.Plans.{same_items}
use Rattle.rc_job.specs.declared.job.Job.{Job}
use Rattle.rc_filter.specs.Decided.{Around, around, decided_at, item_of, planned_items, start_of}
use Rattle.rc_filter.specs.Scope.{decides, is_above_in_scope}

abbrev Key : Type 0
Key = List (List ℕ)

some_none : {A : Type 0} (x : A) → None ≡ Some x → ⊥
some_none x e = cc

same_some : {A : Type 0} (x y : A) → Some x ≡ Some y → x ≡ y
same_some x y e = cc

abbrev Placed : Type 0
Placed = List (Key × Node)

-- d decides items that stand at their keys
abbrev AtKeys : (Key → Option Item) → Type 0
AtKeys d = (key : Key) (item : Item) → d key ≡ Some item → key_of item.path ≡ key

both : (a b : Bool) → T a → T b → T (a && b)
both true true p q = tt
both true false p q = q
both false b p q = p

left : (a b : Bool) → T (a && b) → T a
left true b p = tt
left false b p = p

right : (a b : Bool) → T (a && b) → T b
right true b p = p
right false b p = absurd p

-- the answer of d, where the key is found
abbrev where_found : Option Node → Option Item → Option Item
where_found None answer = None
where_found (Some node) answer = answer

none_where_found : (found : Option Node) (answer : Option Item) → answer ≡ None → where_found found answer ≡ None
none_where_found None answer e = refl
none_where_found (Some node) answer e = e

module _ (d : Key → Option Item) (at : AtKeys d) where
  abbrev decided : Placed → List (Key × Item)
  decided es = map keyed (filter_map d (map (λ (e : Key × Node). e.0) es))

  below : (key : Key) (es : Placed) → T (below_all key_cmp key es) → T (below_all key_cmp key (decided es))
  below key [] h = tt
  below key (e ∷ es) h =
      let rest = below key es (right _ _ h) in
      elim (d e.0) as (λ o. d e.0 ≡ o → T (below_all key_cmp key (map keyed (cons_option o (filter_map d (map (λ (e : Key × Node). e.0) es)))))) [
        | None ↦ λ _. rest
        | Some item ↦ λ is. both _ _ (subst (λ k. T (is_lt (key_cmp key k))) (sym (at e.0 item is)) (left _ _ h)) rest
      ] refl

  sorted : (es : Placed) → T (is_sorted key_cmp es) → T (is_sorted key_cmp (decided es))
  sorted [] h = tt
  sorted (e ∷ es) h =
      let rest = sorted es (right _ _ h) in
      elim (d e.0) as (λ o. d e.0 ≡ o → T (is_sorted key_cmp (map keyed (cons_option o (filter_map d (map (λ (e : Key × Node). e.0) es)))))) [
        | None ↦ λ _. rest
        | Some item ↦ λ is. both _ _ (subst (λ k. T (below_all key_cmp k (decided es))) (sym (at e.0 item is)) (below e.0 es (left _ _ h))) rest
      ] refl

  found : (es : Placed) (q : Key) → find key_cmp q (decided es) ≡ where_found (find key_cmp q es) (d q)
  found [] q = refl
  found (e ∷ es) q =
      let rest = found es q in
      elim (eq_by_cmp key_cmp q e.0) as (λ b. eq_by_cmp key_cmp q e.0 ≡ b → find key_cmp q (decided (e ∷ es)) ≡ where_found (cond b (Some e.1) (find key_cmp q es)) (d q)) [
        | true ↦ λ t.
            elim (d e.0) as (λ o. d e.0 ≡ o → find key_cmp q (map keyed (cons_option o (filter_map d (map (λ (e : Key × Node). e.0) es)))) ≡ d q) [
              | None ↦ λ is. let nothing : d q ≡ None = ap d (same_key q e.0 t) ∙ is in rest ∙ none_where_found (find key_cmp q es) (d q) nothing ∙ sym nothing
              | Some item ↦ λ is. subst (λ k. cond (eq_by_cmp key_cmp q k) (Some item) (find key_cmp q (decided es)) ≡ d q) (sym (at e.0 item is)) (subst (λ b. cond b (Some item) (find key_cmp q (decided es)) ≡ d q) (sym t) (sym is ∙ ap d (sym (same_key q e.0 t))))
            ] refl
        | false ↦ λ f.
            elim (d e.0) as (λ o. d e.0 ≡ o → find key_cmp q (map keyed (cons_option o (filter_map d (map (λ (e : Key × Node). e.0) es)))) ≡ where_found (find key_cmp q es) (d q)) [
              | None ↦ λ _. rest
              | Some item ↦ λ is. subst (λ k. cond (eq_by_cmp key_cmp q k) (Some item) (find key_cmp q (decided es)) ≡ where_found (find key_cmp q es) (d q)) (sym (at e.0 item is)) (subst (λ b. cond b (Some item) (find key_cmp q (decided es)) ≡ where_found (find key_cmp q es) (d q)) (sym f) rest)
            ] refl
      ] refl

-- what is found at a key has that key
found_at : (items : List Item) (key : Key) (item : Item) → item_at items key ≡ Some item → key_of item.path ≡ key
found_at [] key item e = absurd (some_none item e)
found_at (other ∷ items) key item e =
    elim (eq_by_cmp key_cmp key (key_of other.path)) as (λ b. eq_by_cmp key_cmp key (key_of other.path) ≡ b → cond b (Some other) (item_at items key) ≡ Some item → key_of item.path ≡ key) [
      | true ↦ λ t is. ap (λ (i : Item). key_of i.path) (sym (same_some other item is)) ∙ sym (same_key key (key_of other.path) t)
      | false ↦ λ _ is. found_at items key item is
    ] refl e

-- where neither tree has the key, nothing is decided
find_both : (es fs : Placed) (q : Key) → find key_cmp q (es ++ fs) ≡ None → (find key_cmp q es ≡ None) × (find key_cmp q fs ≡ None)
find_both [] fs q e = (refl, e)
find_both (x ∷ es) fs q e =
    elim (eq_by_cmp key_cmp q x.0) as (λ b. cond b (Some x.1) (find key_cmp q (es ++ fs)) ≡ None → (cond b (Some x.1) (find key_cmp q es) ≡ None) × (find key_cmp q fs ≡ None)) [
      | true ↦ λ is. absurd (some_none x.1 (sym is))
      | false ↦ λ is. find_both es fs q is
    ] e

nothing_there : (job : Job) (moment : ℕ) (key ours theirs : Key) (near : Around) (above : Bool) (source target : Option Node) → source ≡ None → target ≡ None → cond (decides job key (option_map (λ (node : Node). node.kind) source) (option_map (λ (node : Node). node.kind) target) && above) (item_of job moment key ours theirs near source target) None ≡ None
nothing_there job moment key ours theirs near above None None e f = refl
nothing_there job moment key ours theirs near above None (Some node) e f = absurd (some_none node (sym f))
nothing_there job moment key ours theirs near above (Some node) target e f = absurd (some_none node (sym e))

undecided : (job : Job) (source target : Tree) (moment : ℕ) (q : Key) → get (from_entries {R = key_cmp} (entries source ++ entries target)) q ≡ None → decided_at job source target moment q ≡ None
undecided job source target moment q e =
    let apart = find_both (entries source) (entries target) q (sym (get-from_entries key_cmp-total (entries source ++ entries target) q) ∙ e) in
    nothing_there job moment q (spelled source q) (spelled target q) (around job source target moment q) (is_above_in_scope job source target q) (get source q) (get target q) (get-entries source q ∙ apart.0) (get-entries target q ∙ apart.1)

known : (found : Option Node) (answer : Option Item) → (found ≡ None → answer ≡ None) → where_found found answer ≡ answer
known None answer h = sym (h refl)
known (Some node) answer h = refl

is_true : (b : Bool) → T b → b ≡ true
is_true true p = refl
is_true false p = absurd p

pub planned : (job : Job) (source target : Tree) (plan : Plan) → IsPlanOf (start_of job source target) plan → plan.items ≡ planned_items job source target plan.moment
planned job source target plan is =
    let d = decided_at job source target plan.moment in
    let whole = from_entries {R = key_cmp} (entries source ++ entries target) in
    let at : AtKeys d = λ key item e. found_at plan.items key item (is.items key ∙ e) in
    same_items plan.items (planned_items job source target plan.moment) is.rising
    (is_true _ (sorted d at (entries whole) (entries_sorted whole)))
    (λ key. is.items key ∙ sym (found d at (entries whole) key ∙ known (find key_cmp key (entries whole)) (d key) (λ none. undecided job source target plan.moment key (get-entries whole key ∙ none))))
