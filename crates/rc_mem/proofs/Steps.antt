-- What a call on a tree leaves, where it is open at its map.
use Rattle.std.proofs.Common.{◌≡◌, ℕ, suc, cond, arith, List, [], ◌∷◌, Option, Some, None, Result, Ok, Err, refl, sym, ap, subst, ◌∙◌}
use Rattle.std.specs.Prelude.{IsSome, IfSome, IsSomeAnd, OnOk, OnErr, option_map}
use Rattle.std.specs.List.{All}
use Rattle.std.specs.declared.cmp.Ordering.TheVariants.{Less}
use Rattle.std.specs.BTreeMap as btree
use Rattle.std.specs.BTreeMap.{Updates, UpdatesBy, WritesThrough}
use Rattle.std.specs.FinMap.{entries, find, get, get-entries, insert}
use Rattle.rc_tree.specs.declared.attr.Kind.TheVariants.{File, Dir}
use Rattle.rc_tree.specs.Path.{key_of, key_cmp, last_name, parent_of}
use Rattle.rc_tree.specs.Tree.{Node, Tree, IsDirectory, IsTree}
use Rattle.rc_tree.proofs.Keys.{below_apart, key_cmp-IsAntisymmetric}
use Rattle.rc_volume.specs.Site.{Becomes, Comes, Goes, IsRemovable}
use Rattle.rc_mem.specs.declared.node.TreeNode.{TreeNode}
use Rattle.rc_mem.specs.Nodes.{node_of, IsSpelledIn}
use Rattle.rc_mem.specs.Held.{NodeMap, AltersAt, IsPlaced, IsSound, tree_held}
use Rattle.rc_mem.proofs.Maps.{PutsAt, puts-from_updates}
use Rattle.rc_mem.proofs.Trees.{IsTree-added, IsTree-changed}
use Rattle.rc_mem.proofs.Sound.{get-held, stands-held, held-insert, held-same, alters-becomes, alters-comes, alters-goes, IsSound-came, IsSound-changed, IsSound-went}

-- what follows at an answer holds there
pub on_ok-to : {X E P Q : Type 0} (r : Result X E) → (P → Q) → OnOk r P → OnOk r Q
on_ok-to (Ok x) to h = to h
on_ok-to (Err e) to h = tt

pub on_err-to : {X E P Q : Type 0} (r : Result X E) → (P → Q) → OnErr r P → OnErr r Q
on_err-to (Ok x) to h = tt
on_err-to (Err e) to h = to h

-- What stands at a path, by the key that was looked up

pub stands-self : (self : Tree) (m : NodeMap) (k q : List (List ℕ)) (node : TreeNode) → tree_held m ≡ self → k ≡ q → Some node ≡ btree.get key_cmp m k → get self q ≡ Some (node_of node)
stands-self self m k q node view key at = ap (get self) (sym key) ∙ ap (λ t. get t k) (sym view) ∙ stands-held m k node (sym at)

pub absent-self : (self : Tree) (m : NodeMap) (k q : List (List ℕ)) → tree_held m ≡ self → k ≡ q → None ≡ btree.get key_cmp m k → get self q ≡ None
absent-self self m k q view key at = ap (get self) (sym key) ∙ ap (λ t. get t k) (sym view) ∙ get-held m k ∙ ap (option_map node_of) (sym at)

-- what is known of a file that stands
pub file_here : (o : Option Node) (node : Node) (P : Node → Type 0) → o ≡ Some node → IsSomeAnd o (λ n. (n.kind ≡ File) × P n) → (node.kind ≡ File) × P node
file_here o node P at file = subst (λ (x : Option Node). IsSomeAnd x (λ n. (n.kind ≡ File) × P n)) at file

-- nothing is known of what is absent
pub none_here : (o : Option Node) (P : Node → Type 0) → o ≡ None → IsSomeAnd o P → ⊥
none_here o P at some = subst (λ (x : Option Node). IsSomeAnd x P) at some

-- what is known of what is there
pub some_here : {X : Type 0} (o : Option X) (x : X) (P : X → Type 0) → o ≡ Some x → IsSomeAnd o P → P x
some_here o x P at some = subst (λ (o : Option _). IsSomeAnd o P) at some

pub none_some : (o : Option Node) → o ≡ None → IsSome o → ⊥
none_some o at some = (let no = subst IsSome at some in cc)

-- a directory of a tree has no bytes
pub no_bytes-dir : (node : Node) → node.kind ≡ File → node.kind ≡ Dir → node.bytes ≡ []
no_bytes-dir node file dir = (let no : File ≡ Dir = sym file ∙ dir in cc)

-- A node is changed in place

-- what is written through what was lent
module _ (m n : NodeMap) (k : List (List ℕ)) (node new : TreeNode) (at : Some node ≡ btree.get key_cmp m k) (writes : WritesThrough key_cmp (key_cmp k) m new n) where
  puts : PutsAt key_cmp k (Some new) m n
  puts = puts-from_updates key_cmp-IsAntisymmetric k (Some new) m n (writes.3 (subst IsSome at refl))

  pub sound-changed : IsSound m → new.path ≡ node.path → new.kind ≡ node.kind → (new.kind ≡ Dir → new.bytes ≡ []) → IsSound n
  sound-changed sound path kind empty =
      IsSound-changed m n k new sound puts node (sym at) path
      (subst IsTree (sym (held-insert m n k new puts)) (IsTree-changed (tree_held m) k (node_of node) (node_of new) sound.tree (stands-held m k node (sym at)) (ap last_name path) kind empty))

  pub self-becomes : (self : Tree) (q : List (List ℕ)) (change : Node → Node) → tree_held m ≡ self → k ≡ q → node_of new ≡ change (node_of node) → AltersAt q (Becomes change) self (tree_held n)
  self-becomes self q change view key is =
      subst (λ (x : List (List ℕ)). AltersAt x (Becomes change) self (tree_held n)) key
      (subst (λ t. AltersAt k (Becomes change) t (tree_held n)) view (alters-becomes m n k node new change puts (sym at) is))

  pub self-same : (self : Tree) → tree_held m ≡ self → node_of new ≡ node_of node → tree_held n ≡ self
  self-same self view same = held-same m n k node new puts (sym at) same ∙ view

-- nothing stands at a key above all keys
above-find : (es : List (List (List ℕ) × Node)) (k : List (List ℕ)) → All (λ entry. key_cmp entry.0 k ≡ Less) es → find key_cmp k es ≡ None
above-find [] k above = refl
above-find (e ∷ es) k above = ap (λ b. cond b (Some e.1) (find key_cmp k es)) (below_apart e.0 k (above 0 e (omega arith))) ∙ above-find es k (λ i d lt. above (suc i) d (omega arith))

pub above-absent : (self : Tree) (k : List (List ℕ)) → All (λ entry. key_cmp entry.0 k ≡ Less) (entries self) → get self k ≡ None
above-absent self k above = get-entries self k ∙ above-find (entries self) k above

-- A node goes

module _ (m n : NodeMap) (k : List (List ℕ)) (updates : UpdatesBy key_cmp (key_cmp k) m n None) where
  gone : PutsAt key_cmp k None m n
  gone = puts-from_updates key_cmp-IsAntisymmetric k None m n updates

  pub sound-went : IsSound m → (self : Tree) (q : List (List ℕ)) → tree_held m ≡ self → k ≡ q → IsRemovable self q → IsSound n
  sound-went sound self q view key free = IsSound-went m n k sound gone (subst (λ t. IsRemovable t k) (sym view) (subst (IsRemovable self) (sym key) free))

  pub self-goes : (self : Tree) (q : List (List ℕ)) → tree_held m ≡ self → k ≡ q → AltersAt q Goes self (tree_held n)
  self-goes self q view key =
      subst (λ (x : List (List ℕ)). AltersAt x Goes self (tree_held n)) key
      (subst (λ t. AltersAt k Goes t (tree_held n)) view (alters-goes m n k gone))

-- A node comes

module _ (m n : NodeMap) (k : List (List ℕ)) (new : TreeNode) (updates : Updates key_cmp m n k (Some new)) where
  comes : PutsAt key_cmp k (Some new) m n
  comes = puts-from_updates key_cmp-IsAntisymmetric k (Some new) m n updates

  module _ (self : Tree) (view : tree_held m ≡ self) where
    pub sound-came : IsSound m → (path : List (List ℕ)) → IsPlaced self path new.path → k ≡ key_of path → get self (key_of path) ≡ None → (new.kind ≡ Dir → new.bytes ≡ []) → IsSound n
    sound-came sound path placed key absent empty =
        let own : key_of new.path ≡ k = placed.key ∙ sym key in
        let none : get (tree_held m) k ≡ None = ap (get (tree_held m)) key ∙ ap (λ t. get t (key_of path)) view ∙ absent in
        let within = subst (λ t. IsSomeAnd (parent_of new.path) (λ parent. IsDirectory t (key_of parent))) (sym view) placed.within in
        let added = IsTree-added (tree_held m) new.path (node_of new) sound.tree within (ap (get (tree_held m)) own ∙ none) refl placed.depth placed.named empty in
        let tree : IsTree (tree_held n) = subst IsTree (ap (λ q. insert (tree_held m) q (node_of new)) own ∙ sym (held-insert m n k new comes)) added in
        IsSound-came m n k new sound comes none own (subst (λ t. IfSome (parent_of new.path) (IsSpelledIn t)) (sym view) placed.spelled) tree

    pub self-comes : (q : List (List ℕ)) (node : Node) → k ≡ q → node_of new ≡ node → AltersAt q (Comes node) self (tree_held n)
    self-comes q node key is =
        subst (λ (x : List (List ℕ)). AltersAt x (Comes node) self (tree_held n)) key
        (subst (λ t. AltersAt k (Comes node) t (tree_held n)) view (alters-comes m n k new node comes is))

    pub self-insert : (q : List (List ℕ)) (node : Node) → k ≡ q → node_of new ≡ node → tree_held n ≡ insert self q node
    self-insert q node key is = held-insert m n k new comes ∙ ap (λ t. insert t k (node_of new)) view ∙ ap (λ x. insert self x (node_of new)) key ∙ ap (insert self q) is
