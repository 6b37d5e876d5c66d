-- Draws for keys one after another, and the keys for which they are.
use Rattle.std.proofs.Common.{◌≡◌, ◌≢◌, ℕ, Bool, false, cond, List, [], ◌∷◌, map, Option, Some, None, Result, Ok, Err, refl, sym, ap, subst, ◌∙◌}
use Rattle.std.specs.Prelude.{IfOk, is_some, option_map, unwrap_or}
use Rattle.std.specs.List.{AllByRecursion}
use Rattle.std.specs.List.Sorted.{IsStrictlySortedBy}
use Rattle.std.specs.Ordering.{is_eq}
use Rattle.std.specs.declared.cmp.Ordering.TheVariants.{Less}
use Rattle.std.specs.BTreeMap as btree
use Rattle.std.specs.BTreeMap.{BTreeMap, IsEmpty, IsOrdered, Updates}
use Rattle.std.specs.Map.{keys_of, lookup}
use Rattle.std.specs.FinMap as fin
use Rattle.std.specs.FinMap.{empty, entries, find, get, get-insert, insert}
use Rattle.std.proofs.lemmas.Map.Keys.{sorted_head}
use Rattle.rc_tree.specs.Path.{key_cmp, key_of}
use Rattle.rc_tree.proofs.Keys.{apart_keys, key_cmp-IsAntisymmetric, key_cmp-total, key_itself}
use Rattle.rc_stop.specs.Grown.{keys_held, odd_in}
use Rattle.rc_stop.specs.Stops.{draws, is_odd, next_state, state_behind}
use Rattle.rc_mem.specs.declared.node.TreeNode.{TreeNode}
use Rattle.rc_mem.specs.Nodes.{at_key, node_of}
use Rattle.rc_mem.proofs.Maps.{entries-shown, get-shown, puts-from_updates}
use Rattle.rc_mem.proofs.Trees.{differ_or}

-- what is found first, and else the other
abbrev pub over : Option Bool → Option Bool → Option Bool
over (Some b) other = Some b
over None other = other

over-none : (found : Option Bool) → over found None ≡ found
over-none None = refl
over-none (Some b) = refl

-- a key below all others is none of them
draws-below : (key : List (List ℕ)) (x : ℕ) (keys : List (List (List ℕ))) → AllByRecursion (λ k. key_cmp key k ≡ Less) keys → find key_cmp key (draws x keys) ≡ None
draws-below key x [] below = refl
draws-below key x (first ∷ keys) below = ap (λ r. cond (is_eq r) (Some (is_odd (next_state x))) (find key_cmp key (draws (next_state x) keys))) below.0 ∙ draws-below key (next_state x) keys below.1

-- one more key is drawn
pub drawn-more : (key : List (List ℕ)) (x : ℕ) (keys : List (List (List ℕ))) (odd new : BTreeMap (List (List ℕ)) Bool) → IsStrictlySortedBy key_cmp (key ∷ keys) → Updates key_cmp odd new key (Some (is_odd (next_state x)))
    → (other : List (List ℕ)) → over (find key_cmp other (draws (next_state x) keys)) (btree.get key_cmp new other) ≡ over (find key_cmp other (draws x (key ∷ keys))) (btree.get key_cmp odd other)
drawn-more key x keys odd new sorted updates other =
    let puts = puts-from_updates key_cmp-IsAntisymmetric key (Some (is_odd (next_state x))) odd new updates in
    differ_or other key
    (λ same. subst (λ k. over (find key_cmp k (draws (next_state x) keys)) (btree.get key_cmp new k) ≡ over (find key_cmp k (draws x (key ∷ keys))) (btree.get key_cmp odd k)) (sym same)
    (ap (λ f. over f (btree.get key_cmp new key)) (draws-below key (next_state x) keys (sorted_head key_cmp key keys sorted)) ∙ puts.here
    ∙ ap (λ b. over (cond b (Some (is_odd (next_state x))) (find key_cmp key (draws (next_state x) keys))) (btree.get key_cmp odd key)) (sym (key_itself key))))
    (λ apart. ap (over (find key_cmp other (draws (next_state x) keys))) (puts.others other apart)
    ∙ ap (λ b. over (cond b (Some (is_odd (next_state x))) (find key_cmp other (draws (next_state x) keys))) (btree.get key_cmp odd other)) (sym (apart_keys other key apart)))

-- in an empty map nothing is found
pub none-in : {X : Type 0} (m : BTreeMap (List (List ℕ)) X) → IsEmpty m → (key : List (List ℕ)) → btree.get key_cmp m key ≡ None
none-in m empty_one key = ap (λ es. lookup (λ k. is_eq (key_cmp key k)) es) empty_one

pub drawn-first : (odd : BTreeMap (List (List ℕ)) Bool) → IsEmpty odd → (found : Option Bool) (key : List (List ℕ)) → over found (btree.get key_cmp odd key) ≡ found
drawn-first odd none found key = ap (over found) (none-in odd none key) ∙ over-none found

-- Keys

abbrev unit_of : Unit {0} → Unit {0}
unit_of x = tt

get-keys : (m : BTreeMap (List (List ℕ)) (Unit {0})) (key : List (List ℕ)) → get (keys_held m) key ≡ option_map unit_of (btree.get key_cmp m key)
get-keys m key = get-shown key_cmp unit_of key_cmp-total m key

-- one more key
pub keys-insert : (m n : BTreeMap (List (List ℕ)) (Unit {0})) (key : List (List ℕ)) → Updates key_cmp m n key (Some tt) → keys_held n ≡ insert (keys_held m) key tt
keys-insert m n key updates =
    let puts = puts-from_updates key_cmp-IsAntisymmetric key (Some tt) m n updates in
    fin.same_map key_cmp-total key_cmp-IsAntisymmetric (keys_held n) (insert (keys_held m) key tt) (λ q. differ_or q key
    (λ same. subst (λ k. get (keys_held n) k ≡ get (insert (keys_held m) key tt) k) (sym same)
    (get-keys n key ∙ ap (option_map unit_of) puts.here ∙ sym (get-insert key_cmp-total (keys_held m) key tt key ∙ ap (λ b. cond b (Some tt) (get (keys_held m) key)) (key_itself key))))
    (λ apart. get-keys n q ∙ ap (option_map unit_of) (puts.others q apart) ∙ sym (get-keys m q)
    ∙ sym (get-insert key_cmp-total (keys_held m) key tt q ∙ ap (λ b. cond b (Some tt) (get (keys_held m) q)) (apart_keys q key apart))))

pub keys-none : (m : BTreeMap (List (List ℕ)) (Unit {0})) → IsEmpty m → keys_held m ≡ empty
keys-none m none = ap (λ es. fin.from_entries (map (λ (e : List (List ℕ) × Unit {0}). (e.0, tt)) es)) none

firsts : (es : List (List (List ℕ) × Unit {0})) → keys_of es ≡ map (λ (e : List (List ℕ) × Unit {0}). e.0) (map (λ (e : List (List ℕ) × Unit {0}). (e.0, unit_of e.1)) es)
firsts [] = refl
firsts (e ∷ es) = ap (λ ks. e.0 ∷ ks) (firsts es)

-- the keys in order
pub keys-are : (m : BTreeMap (List (List ℕ)) (Unit {0})) → IsOrdered key_cmp m → keys_of m.entries ≡ fin.keys (keys_held m)
keys-are m ordered = firsts m.entries ∙ ap (map (λ (e : List (List ℕ) × Unit {0}). e.0)) (sym (entries-shown key_cmp unit_of key_cmp-total key_cmp-IsAntisymmetric m ordered))

-- One key is added where it is not there

pub odd-added : (m n : BTreeMap (List (List ℕ)) Bool) (key : List (List ℕ)) → btree.get key_cmp m key ≡ None → Updates key_cmp m n key (Some false) → (other : List (List ℕ)) → odd_in n other ≡ odd_in m other
odd-added m n key none updates other =
    let puts = puts-from_updates key_cmp-IsAntisymmetric key (Some false) m n updates in
    differ_or other key
    (λ same. subst (λ k. odd_in n k ≡ odd_in m k) (sym same) (ap (λ o. unwrap_or o false) puts.here ∙ ap (λ o. unwrap_or o false) (sym none)))
    (λ apart. ap (λ o. unwrap_or o false) (puts.others other apart))

pub none-before : (m n : BTreeMap (List (List ℕ)) Bool) (key : List (List ℕ)) (b : Bool) → Updates key_cmp m n key (Some b) → (other : List (List ℕ)) → btree.get key_cmp n other ≡ None → btree.get key_cmp m other ≡ None
none-before m n key b updates other none =
    let puts = puts-from_updates key_cmp-IsAntisymmetric key (Some b) m n updates in
    differ_or other key
    (λ same. (let no : Some b ≡ None = sym puts.here ∙ ap (btree.get key_cmp n) (sym same) ∙ none in cc))
    (λ apart. sym (puts.others other apart) ∙ none)

is_none : {X : Type 0} (o : Option X) → is_some o ≡ false → o ≡ None
is_none None e = refl
is_none (Some x) e = cc

pub none-there : (m : BTreeMap (List (List ℕ)) Bool) (key : List (List ℕ)) (b : Bool) → b ≡ is_some (btree.get key_cmp m key) → b ≡ false → btree.get key_cmp m key ≡ None
none-there m key b is closed = is_none (btree.get key_cmp m key) (sym is ∙ closed)

-- one key is taken and drawn
pub drawn-step : (key : List (List ℕ)) (u : Unit {0}) (x s : ℕ) (b : Bool) (entries rest : List (List (List ℕ) × Unit {0})) (odd new : BTreeMap (List (List ℕ)) Bool) (all : List (List ℕ) → Option Bool) → entries ≡ (key, u) ∷ rest → IsStrictlySortedBy key_cmp (keys_of entries)
    → s ≡ next_state x → b ≡ is_odd s → Updates key_cmp odd new key (Some b) → ((other : List (List ℕ)) → over (find key_cmp other (draws x (keys_of entries))) (btree.get key_cmp odd other) ≡ all other)
    → (other : List (List ℕ)) → over (find key_cmp other (draws s (keys_of rest))) (btree.get key_cmp new other) ≡ all other
drawn-step key u x s b entries rest odd new all is sorted next drawn_b updates found other =
    let value : b ≡ is_odd (next_state x) = drawn_b ∙ ap is_odd next in
    ap (λ y. over (find key_cmp other (draws y (keys_of rest))) (btree.get key_cmp new other)) next
    ∙ drawn-more key x (keys_of rest) odd new (subst (λ es. IsStrictlySortedBy key_cmp (keys_of es)) is sorted) (subst (λ y. Updates key_cmp odd new key (Some y)) value updates) other
    ∙ ap (λ es. over (find key_cmp other (draws x (keys_of es))) (btree.get key_cmp odd other)) (sym is) ∙ found other

pub behind-step : (key : List (List ℕ)) (u : Unit {0}) (x s : ℕ) (entries rest : List (List (List ℕ) × Unit {0})) → entries ≡ (key, u) ∷ rest → s ≡ next_state x → state_behind s (keys_of rest) ≡ state_behind x (keys_of entries)
behind-step key u x s entries rest is next = ap (λ y. state_behind y (keys_of rest)) next ∙ ap (λ es. state_behind x (keys_of es)) (sym is)

-- a node at another key is passed over
pub find-next : (node : TreeNode) (nodes rest : List TreeNode) (other : List (List ℕ)) → nodes ≡ node ∷ rest → other ≢ key_of node.path → find key_cmp other (map at_key rest) ≡ find key_cmp other (map at_key nodes)
find-next node nodes rest other is apart =
    ap (λ b. cond b (Some (node_of node)) (find key_cmp other (map at_key rest))) (sym (apart_keys other (key_of node.path) apart)) ∙ ap (λ ns. find key_cmp other (map at_key ns)) (sym is)

pub if_ok-to : {X E : Type 0} (P Q : X → Type 0) (r : Result X E) → ((x : X) → P x → Q x) → IfOk r P → IfOk r Q
if_ok-to P Q (Ok x) to h = to x h
if_ok-to P Q (Err e) to h = tt
