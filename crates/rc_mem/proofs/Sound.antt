-- A map of nodes after a change of one of them: what the tree has, and that it stays sound.
use Rattle.std.proofs.Common.{◌≡◌, ◌≢◌, ℕ, ◌+◌, ◌<◌, ◌≤◌, List, [], ◌∷◌, ◌++◌, length, take, get_or, map, inl, inr, Option, Some, None, refl, sym, ap, subst, ◌∙◌, arith, length-take}
use Rattle.std.specs.Prelude.{IfSome, option_map}
use Rattle.std.specs.List.{All}
use Rattle.std.specs.Cmp.{eq_by_cmp_equiv}
use Rattle.std.specs.Borrow.{Bor}
use Rattle.std.specs.Option.{option_copied}
use Rattle.std.specs.Ordering.{is_eq}
use Rattle.std.specs.Map.{values_of, keys_of, lookup}
use Rattle.std.specs.BTreeMap as btree
use Rattle.std.specs.BTreeMap.{IsEmpty, IsOrdered}
use Rattle.std.specs.FinMap.{get, insert, entries}
use Rattle.std.proofs.lemmas.Bool.{cases_lt}
use Rattle.std.proofs.lemmas.List.{take_all, take_more, take-take, map-append}
use Rattle.std.proofs.lemmas.Map.Keys.{IsDistinct-from_sorted}
use Rattle.std.proofs.lemmas.Map.Views.{All-values_from_lookup, All-found}
use Rattle.rc_tree.specs.declared.attr.Kind.TheVariants.{Dir}
use Rattle.rc_tree.specs.Name.{folded}
use Rattle.rc_tree.specs.Path.{key_of, key_cmp, last_name, parent_of}
use Rattle.rc_tree.specs.Tree.{Node, Tree, FitsAt, IsTree}
use Rattle.rc_tree.proofs.Keys.{key_cmp-total, key_cmp-IsAntisymmetric, same_tree}
use Rattle.rc_volume.specs.Site.{IsRemovable, Becomes, Comes, Goes}
use Rattle.rc_mem.specs.declared.node.TreeNode.{TreeNode}
use Rattle.rc_mem.specs.Nodes.{node_of, at_key, IsSpelledIn}
use Rattle.rc_mem.specs.Held.{NodeMap, AltersAt, IsSound, held, tree_held}
use Rattle.rc_mem.proofs.Maps.{PutsAt, get-shown, entries-shown, map-same, map-values}
use Rattle.rc_mem.proofs.Trees.{get-inserted, get-inserted_other, IsTree-removed, no_bytes-in, no_child, differ_or}

-- what the tree has at a key
pub get-held : (m : NodeMap) (q : List (List ℕ)) → get (tree_held m) q ≡ option_map node_of (btree.get key_cmp m q)
get-held m q = get-shown key_cmp node_of key_cmp-total m q

-- where the map has a node, the tree has what it is to contracts
pub stands-held : (m : NodeMap) (q : List (List ℕ)) (node : TreeNode) → btree.get key_cmp m q ≡ Some node → get (tree_held m) q ≡ Some (node_of node)
stands-held m q node at = get-held m q ∙ ap (option_map node_of) at

-- and the other way round
pub held-from_stands : (m : NodeMap) (q : List (List ℕ)) → (get (tree_held m) q ≡ None → ⊥) → (node : TreeNode) × (btree.get key_cmp m q ≡ Some node)
held-from_stands m q stands = some (btree.get key_cmp m q) refl
  where
    some : (o : Option TreeNode) → btree.get key_cmp m q ≡ o → (node : TreeNode) × (btree.get key_cmp m q ≡ Some node)
    some None at = absurd (stands (get-held m q ∙ ap (option_map node_of) at))
    some (Some node) at = (node, at)

-- a directory has no bytes
pub no_bytes-at : (m : NodeMap) (k : List (List ℕ)) (node : TreeNode) → IsSound m → btree.get key_cmp m k ≡ Some node → node.kind ≡ Dir → node.bytes ≡ []
no_bytes-at m k node sound at = no_bytes-in (tree_held m) k (node_of node) sound.tree (stands-held m k node at)

-- a change of the map is one of the tree
module _ (m n : NodeMap) (k : List (List ℕ)) (w : Option TreeNode) (puts : PutsAt key_cmp k w m n) where
  pub held-here : get (tree_held n) k ≡ option_map node_of w
  held-here = get-held n k ∙ ap (option_map node_of) puts.here

  pub held-others : (other : List (List ℕ)) → other ≢ k → get (tree_held n) other ≡ get (tree_held m) other
  held-others other apart = get-held n other ∙ ap (option_map node_of) (puts.others other apart) ∙ sym (get-held m other)

-- one that puts a node is an insert
pub held-insert : (m n : NodeMap) (k : List (List ℕ)) (node : TreeNode) → PutsAt key_cmp k (Some node) m n → tree_held n ≡ insert (tree_held m) k (node_of node)
held-insert m n k node puts = same_tree (tree_held n) (insert (tree_held m) k (node_of node)) (λ q. differ_or q k
    (λ e. ap (get (tree_held n)) e ∙ held-here m n k (Some node) puts ∙ sym (get-inserted (tree_held m) k (node_of node)) ∙ ap (get (insert (tree_held m) k (node_of node))) (sym e))
    (λ apart. held-others m n k (Some node) puts q apart ∙ sym (get-inserted_other (tree_held m) k (node_of node) q apart)))

-- a node that is put where one stood that shows the same changes nothing
pub held-same : (m n : NodeMap) (k : List (List ℕ)) (node new : TreeNode) → PutsAt key_cmp k (Some new) m n → btree.get key_cmp m k ≡ Some node → node_of new ≡ node_of node → tree_held n ≡ tree_held m
held-same m n k node new puts at same = same_tree (tree_held n) (tree_held m) (λ q. differ_or q k
    (λ e. ap (get (tree_held n)) e ∙ held-here m n k (Some new) puts ∙ ap Some same ∙ sym (stands-held m k node at) ∙ ap (get (tree_held m)) (sym e))
    (λ apart. held-others m n k (Some new) puts q apart))

-- how the tree changed
pub alters-becomes : (m n : NodeMap) (k : List (List ℕ)) (node new : TreeNode) (change : Node → Node) → PutsAt key_cmp k (Some new) m n → btree.get key_cmp m k ≡ Some node → node_of new ≡ change (node_of node)
    → AltersAt k (Becomes change) (tree_held m) (tree_held n)
alters-becomes m n k node new change puts at is = record {
  here = held-here m n k (Some new) puts ∙ ap Some is ∙ sym (ap (option_map change) (stands-held m k node at));
  others = held-others m n k (Some new) puts;
}

pub alters-comes : (m n : NodeMap) (k : List (List ℕ)) (new : TreeNode) (node : Node) → PutsAt key_cmp k (Some new) m n → node_of new ≡ node → AltersAt k (Comes node) (tree_held m) (tree_held n)
alters-comes m n k new node puts is = record { here = held-here m n k (Some new) puts ∙ ap Some is; others = held-others m n k (Some new) puts }

pub alters-goes : (m n : NodeMap) (k : List (List ℕ)) → PutsAt key_cmp k None m n → AltersAt k Goes (tree_held m) (tree_held n)
alters-goes m n k puts = record { here = held-here m n k None puts; others = held-others m n k None puts }

-- Spellings

abbrev spelling_at : Tree → List (List ℕ) → Option (List ℕ)
spelling_at tree key = option_map (λ (node : Node). node.spelling) (get tree key)

-- a path stays spelled where the tree keeps the spellings of its fronts
spelled-kept : (old new : Tree) (path : List (List ℕ)) → ((n : ℕ) → 0 < n → n ≤ length path → spelling_at new (key_of (take n path)) ≡ spelling_at old (key_of (take n path))) → IsSpelledIn old path → IsSpelledIn new path
spelled-kept old new path same spelled n some le = same n some le ∙ spelled n some le

-- what is spelled stands
spelled-stands : (tree : Tree) (path : List (List ℕ)) → IsSpelledIn tree path → (n : ℕ) → 0 < n → n ≤ length path → get tree (key_of (take n path)) ≡ None → ⊥
spelled-stands tree path spelled n some le none = (let no : None ≡ Some (last_name (take n path)) = sym (ap (option_map (λ (node : Node). node.spelling)) none) ∙ spelled n some le in cc)

-- a longer front has one name more
key-more : (path : List (List ℕ)) (n : ℕ) → n < length path → key_of (take (n + 1) path) ≡ key_of (take n path) ++ folded (get_or path n []) ∷ []
key-more [] n lt = absurd (omega arith)
key-more (p ∷ ps) n lt = ap key_of (take_more (p ∷ ps) n [] lt) ∙ map-append folded (take n (p ∷ ps)) (get_or (p ∷ ps) n [] ∷ [])

-- a path is spelled where its directory is, and its last name stands
spelled-child : (tree : Tree) (path : List (List ℕ)) → IfSome (parent_of path) (IsSpelledIn tree) → spelling_at tree (key_of path) ≡ Some (last_name path) → IsSpelledIn tree path
spelled-child tree [] dir last n some le = absurd (omega arith)
spelled-child tree (p ∷ ps) dir last n some le = elim (cases_lt n (length (p ∷ ps))) [
  | inl lt ↦ (let short : n ≤ length ps = omega arith in
      let front : take n (take (length ps) (p ∷ ps)) ≡ take n (p ∷ ps) = take-take n (length ps) (p ∷ ps) short in
      subst (λ (path : List (List ℕ)). spelling_at tree (key_of path) ≡ Some (last_name path)) front (dir n some (omega (arith, length-take (length ps) (p ∷ ps)))))
  | inr ge ↦ subst (λ (path : List (List ℕ)). spelling_at tree (key_of path) ≡ Some (last_name path)) (sym (take_all n (p ∷ ps) ge)) last
]

-- Look-ups

pub if_at : {X : Type 0} (P : X → Type 0) (o : Option X) (x : X) → IfSome o P → o ≡ Some x → P x
if_at P o x h at = subst (λ (o : Option _). IfSome o P) at h

if_from : {X : Type 0} (P : X → Type 0) (o : Option X) (x : X) → o ≡ Some x → P x → IfSome o P
if_from P o x at h = subst (λ (o : Option _). IfSome o P) (sym at) h

if_map : {X : Type 0} (P Q : X → Type 0) (o : Option X) → ((x : X) → o ≡ Some x → P x → Q x) → IfSome o P → IfSome o Q
if_map P Q None to h = tt
if_map P Q (Some x) to h = to x refl h

-- A node comes

module _ (m n : NodeMap) (k : List (List ℕ)) (node : TreeNode) (sound : IsSound m) (puts : PutsAt key_cmp k (Some node) m n) where
  module _ (absent : get (tree_held m) k ≡ None) where
    -- what was spelled still is
    stays-spelled : (path : List (List ℕ)) → IsSpelledIn (tree_held m) path → IsSpelledIn (tree_held n) path
    stays-spelled path spelled =
        spelled-kept (tree_held m) (tree_held n) path
        (λ i some le. ap (option_map (λ (x : Node). x.spelling)) (held-others m n k (Some node) puts (key_of (take i path)) (λ e. spelled-stands (tree_held m) path spelled i some le (ap (get (tree_held m)) e ∙ absent))))
        spelled

    new-spelled : key_of node.path ≡ k → IfSome (parent_of node.path) (IsSpelledIn (tree_held m)) → IsSpelledIn (tree_held n) node.path
    new-spelled keyed dir = spelled-child (tree_held n) node.path (if_map (IsSpelledIn (tree_held m)) (IsSpelledIn (tree_held n)) (parent_of node.path) (λ path at. stays-spelled path) dir)
        (ap (λ q. spelling_at (tree_held n) q) keyed ∙ ap (option_map (λ (x : Node). x.spelling)) (held-here m n k (Some node) puts))

    pub IsSound-came : key_of node.path ≡ k → IfSome (parent_of node.path) (IsSpelledIn (tree_held m)) → IsTree (tree_held n) → IsSound n
    IsSound-came keyed dir tree = record {
      keyed = λ key. differ_or key k
          (λ e. if_from (λ (x : TreeNode). key_of x.path ≡ key) (btree.get key_cmp n key) node (ap (btree.get key_cmp n) e ∙ puts.here) (keyed ∙ sym e))
          (λ apart. subst (λ (o : Option TreeNode). IfSome o (λ x. key_of x.path ≡ key)) (sym (puts.others key apart)) (sound.keyed key));
      tree = tree;
      spelled = λ key. differ_or key k
          (λ e. if_from (λ (x : TreeNode). IsSpelledIn (tree_held n) x.path) (btree.get key_cmp n key) node (ap (btree.get key_cmp n) e ∙ puts.here) (new-spelled keyed dir))
          (λ apart. subst (λ (o : Option TreeNode). IfSome o (λ x. IsSpelledIn (tree_held n) x.path)) (sym (puts.others key apart))
          (if_map (λ (x : TreeNode). IsSpelledIn (tree_held m) x.path) (λ (x : TreeNode). IsSpelledIn (tree_held n) x.path) (btree.get key_cmp m key) (λ x at. stays-spelled x.path) (sound.spelled key)));
    }

  -- A node is changed

  module _ (old : TreeNode) (at : btree.get key_cmp m k ≡ Some old) (path : node.path ≡ old.path) where
    same-spelling : (q : List (List ℕ)) → spelling_at (tree_held n) q ≡ spelling_at (tree_held m) q
    same-spelling q = differ_or q k
        (λ e. ap (spelling_at (tree_held n)) e ∙ ap (option_map (λ (x : Node). x.spelling)) (held-here m n k (Some node) puts) ∙ ap (λ p. Some (last_name p)) path
        ∙ sym (ap (option_map (λ (x : Node). x.spelling)) (stands-held m k old at)) ∙ ap (spelling_at (tree_held m)) (sym e))
        (λ apart. ap (option_map (λ (x : Node). x.spelling)) (held-others m n k (Some node) puts q apart))

    keeps-spelled : (p : List (List ℕ)) → IsSpelledIn (tree_held m) p → IsSpelledIn (tree_held n) p
    keeps-spelled p spelled = spelled-kept (tree_held m) (tree_held n) p (λ i some le. same-spelling (key_of (take i p))) spelled

    pub IsSound-changed : IsTree (tree_held n) → IsSound n
    IsSound-changed tree = record {
      keyed = λ key. differ_or key k
          (λ e. if_from (λ (x : TreeNode). key_of x.path ≡ key) (btree.get key_cmp n key) node (ap (btree.get key_cmp n) e ∙ puts.here)
          (ap key_of path ∙ if_at (λ (x : TreeNode). key_of x.path ≡ k) (btree.get key_cmp m k) old (sound.keyed k) at ∙ sym e))
          (λ apart. subst (λ (o : Option TreeNode). IfSome o (λ x. key_of x.path ≡ key)) (sym (puts.others key apart)) (sound.keyed key));
      tree = tree;
      spelled = λ key. differ_or key k
          (λ e. if_from (λ (x : TreeNode). IsSpelledIn (tree_held n) x.path) (btree.get key_cmp n key) node (ap (btree.get key_cmp n) e ∙ puts.here)
          (subst (IsSpelledIn (tree_held n)) (sym path) (keeps-spelled old.path (if_at (λ (x : TreeNode). IsSpelledIn (tree_held m) x.path) (btree.get key_cmp m k) old (sound.spelled k) at))))
          (λ apart. subst (λ (o : Option TreeNode). IfSome o (λ x. IsSpelledIn (tree_held n) x.path)) (sym (puts.others key apart))
          (if_map (λ (x : TreeNode). IsSpelledIn (tree_held m) x.path) (λ (x : TreeNode). IsSpelledIn (tree_held n) x.path) (btree.get key_cmp m key) (λ x is. keeps-spelled x.path) (sound.spelled key)));
    }

-- A node goes

module _ (m n : NodeMap) (k : List (List ℕ)) (sound : IsSound m) (puts : PutsAt key_cmp k None m n) (free : IsRemovable (tree_held m) k) where
  -- no front of a path that still stands is the key that went
  front-apart : (key : List (List ℕ)) (path : List (List ℕ)) → key_of path ≡ key → key ≢ k → IsSpelledIn (tree_held m) path → (i : ℕ) → 0 < i → i ≤ length path → key_of (take i path) ≢ k
  front-apart key path keyed apart spelled i some le e = elim (cases_lt i (length path)) [
    | inl lt ↦ spelled-stands (tree_held m) path spelled (i + 1) (omega arith) (omega arith)
        (ap (get (tree_held m)) (key-more path i lt ∙ ap (λ (q : List (List ℕ)). q ++ folded (get_or path i []) ∷ []) e) ∙ no_child (tree_held m) k sound.tree free (folded (get_or path i [])))
    | inr ge ↦ apart (sym keyed ∙ ap key_of (sym (take_all i path ge)) ∙ e)
  ]

  left-spelled : (key : List (List ℕ)) (path : List (List ℕ)) → key_of path ≡ key → key ≢ k → IsSpelledIn (tree_held m) path → IsSpelledIn (tree_held n) path
  left-spelled key path keyed apart spelled =
      spelled-kept (tree_held m) (tree_held n) path
      (λ i some le. ap (option_map (λ (x : Node). x.spelling)) (held-others m n k None puts (key_of (take i path)) (front-apart key path keyed apart spelled i some le)))
      spelled

  pub IsSound-went : IsSound n
  IsSound-went = record {
    keyed = λ key. differ_or key k
        (λ e. subst (λ (o : Option TreeNode). IfSome o (λ x. key_of x.path ≡ key)) (sym (ap (btree.get key_cmp n) e ∙ puts.here)) tt)
        (λ apart. subst (λ (o : Option TreeNode). IfSome o (λ x. key_of x.path ≡ key)) (sym (puts.others key apart)) (sound.keyed key));
    tree = IsTree-removed (tree_held m) (tree_held n) k sound.tree free (held-here m n k None puts) (held-others m n k None puts);
    spelled = λ key. differ_or key k
        (λ e. subst (λ (o : Option TreeNode). IfSome o (λ x. IsSpelledIn (tree_held n) x.path)) (sym (ap (btree.get key_cmp n) e ∙ puts.here)) tt)
        (λ apart. subst (λ (o : Option TreeNode). IfSome o (λ x. IsSpelledIn (tree_held n) x.path)) (sym (puts.others key apart))
        (if_map (λ (x : TreeNode). IsSpelledIn (tree_held m) x.path) (λ (x : TreeNode). IsSpelledIn (tree_held n) x.path) (btree.get key_cmp m key)
        (λ x at. left-spelled key x.path (if_at (λ (y : TreeNode). key_of y.path ≡ key) (btree.get key_cmp m key) x (sound.keyed key) at) apart) (sound.spelled key)));
  }

-- Going over the nodes

-- they are the entries of the tree
pub nodes-are : (m : NodeMap) → IsSound m → IsOrdered key_cmp m → map at_key (values_of m.entries) ≡ entries (tree_held m)
nodes-are m sound ordered =
    let keyed : All (λ (e : List (List ℕ) × TreeNode). at_key e.1 ≡ held e) m.entries =
    (λ i d lt. (let e = get_or m.entries i d in
    let at : btree.get key_cmp m e.0 ≡ Some e.1 = All-found key_cmp-total m ordered i d lt in
    let same : key_of e.1.path ≡ e.0 = if_at (λ (x : TreeNode). key_of x.path ≡ e.0) (btree.get key_cmp m e.0) e.1 (sound.keyed e.0) at in
    λ j. (same j, node_of e.1))) in
    map-values at_key m.entries ∙ map-same (λ (e : List (List ℕ) × TreeNode). at_key e.1) held m.entries keyed ∙ sym (entries-shown key_cmp node_of key_cmp-total key_cmp-IsAntisymmetric m ordered)

-- and each is spelled as the tree spells it
pub nodes-spelled : (m : NodeMap) → IsSound m → IsOrdered key_cmp m → All (λ (node : TreeNode). IsSpelledIn (tree_held m) node.path) (values_of m.entries)
nodes-spelled m sound ordered = All-values_from_lookup (eq_by_cmp_equiv key_cmp-total) (λ (node : TreeNode). IsSpelledIn (tree_held m) node.path) m.entries (IsDistinct-from_sorted key_cmp (keys_of m.entries) ordered) sound.spelled

-- The empty map

pub IsSound-empty : (m : NodeMap) → IsEmpty m → IsSound m
IsSound-empty m empty = record {
  keyed = λ key. subst (λ (o : Option TreeNode). IfSome o (λ x. key_of x.path ≡ key)) (sym (none key)) tt;
  tree = (get-held m [] ∙ ap (option_map node_of) (none []), λ parent name. subst (λ (o : Option Node). IfSome o (FitsAt (tree_held m) parent name)) (sym (get-held m (parent ++ name ∷ []) ∙ ap (option_map node_of) (none (parent ++ name ∷ [])))) tt);
  spelled = λ key. subst (λ (o : Option TreeNode). IfSome o (λ x. IsSpelledIn (tree_held m) x.path)) (sym (none key)) tt;
}
  where
    none : (key : List (List ℕ)) → btree.get key_cmp m key ≡ None
    none key = ap (λ es. lookup (λ k. is_eq (key_cmp key k)) es) empty

-- what a function shows of what a look-up lends
pub ref-map : {X Y : Type 0} (show : X → Y) (o : Option (Bor X)) → option_map (λ (x : Bor X). show x.now) o ≡ option_map show (option_copied o)
ref-map show None = refl
ref-map show (Some x) = refl

-- a directory that is lent has no bytes
pub ref-dir : (tree : Tree) (q : List (List ℕ)) (o : Option (Bor TreeNode)) → IsTree tree → option_map (λ (x : Bor TreeNode). node_of x.now) o ≡ get tree q → IfSome o (λ x. x.now.kind ≡ Dir → x.now.bytes ≡ [])
ref-dir tree q None is at = tt
ref-dir tree q (Some x) is at = no_bytes-in tree q (node_of x.now) is (sym at)
