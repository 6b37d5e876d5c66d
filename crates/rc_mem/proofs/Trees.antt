-- Trees after a change of one node.
use Rattle.std.proofs.Common.{◌≡◌, ◌≢◌, ℕ, zero, suc, ◌<◌, ◌≤◌, cond, List, [], ◌∷◌, ◌++◌, length, take, get_or, Option, Some, None, refl, sym, ap, subst, ◌∙◌, arith}
use Rattle.std.specs.Prelude.{IfSome, IsSomeAnd}
use Rattle.std.specs.List.{slice_get}
use Rattle.std.proofs.lemmas.List.{length-map}
use Rattle.std.specs.FinMap.{get, insert, get-insert}
use Rattle.std.specs.Ordering.{is_eq}
use Rattle.std.specs.Cmp.{tied_itself}
use Rattle.std.specs.declared.cmp.Ordering.{Ordering}
use Rattle.std.specs.declared.cmp.Ordering.TheVariants.{Less, Equal, Greater}
use Rattle.rc_tree.specs.Name.{folded, name_fault}
use Rattle.rc_tree.specs.Path.{key_of, last_name, parent_of, key_cmp}
use Rattle.rc_tree.specs.Tree.{Node, Tree, FitsAt, IsDirectory, IsTree}
use Rattle.rc_tree.specs.declared.attr.Kind.TheVariants.{Dir}
use Rattle.rc_volume.specs.Site.{IsRemovable}
use Rattle.rc_mem.proofs.Order.{not_eq-apart}
use Rattle.rc_tree.proofs.Keys.{key_cmp-total, key_cmp-IsAntisymmetric}

-- what is found at a key after an insert
pub get-inserted : (tree : Tree) (key : List (List ℕ)) (node : Node) → get (insert tree key node) key ≡ Some node
get-inserted tree key node = get-insert key_cmp-total tree key node key ∙ ap (λ r. cond (is_eq r) (Some node) (get tree key)) (tied_itself key_cmp-total key)

-- and at the other keys
pub get-inserted_other : (tree : Tree) (key : List (List ℕ)) (node : Node) (other : List (List ℕ)) → other ≢ key → get (insert tree key node) other ≡ get tree other
get-inserted_other tree key node other not =
    get-insert key_cmp-total tree key node other
    ∙ ap (λ b. cond b (Some node) (get tree other)) (not_eq-apart (key_cmp other key) (λ e. not (key_cmp-IsAntisymmetric other key e)))

-- a key with its last name apart
pub snoc : (name : List ℕ) (names : List (List ℕ)) → (last : List ℕ) × (name ∷ names ≡ take (length names) (name ∷ names) ++ last ∷ [])
snoc name [] = (name, refl)
snoc name (next ∷ names) = let rest = snoc next names in (rest.0, ap (λ l. name ∷ l) rest.1)

-- the key of a path that is not the root's
pub key_of-snoc : (name : List ℕ) (names : List (List ℕ)) → key_of (name ∷ names) ≡ key_of (take (length names) (name ∷ names)) ++ folded (last_name (name ∷ names)) ∷ []
key_of-snoc name [] = refl
key_of-snoc name (next ∷ names) = ap (λ l. folded name ∷ l) (key_of-snoc next names)

-- the last name by its place
pub last_name-get_or : (path : List (List ℕ)) (i : ℕ) (d : List ℕ) → suc i ≡ length path → get_or path i d ≡ last_name path
last_name-get_or [] i d e = absurd (omega arith)
last_name-get_or (n ∷ []) zero d e = refl
last_name-get_or (n ∷ []) (suc i) d e = absurd (omega arith)
last_name-get_or (n ∷ m ∷ ms) zero d e = absurd (omega arith)
last_name-get_or (n ∷ m ∷ ms) (suc i) d e = last_name-get_or (m ∷ ms) i d (omega arith)

-- the same by a look-up
pub last_name-slice_get : (path : List (List ℕ)) (i : ℕ) → suc i ≡ length path → slice_get path i ≡ Some (last_name path)
last_name-slice_get [] i e = absurd (omega arith)
last_name-slice_get (n ∷ []) zero e = refl
last_name-slice_get (n ∷ []) (suc i) e = absurd (omega arith)
last_name-slice_get (n ∷ m ∷ ms) zero e = absurd (omega arith)
last_name-slice_get (n ∷ m ∷ ms) (suc i) e = last_name-slice_get (m ∷ ms) i (omega arith)

-- a key with a name is not the root's
not_nil : (front : List (List ℕ)) (last : List ℕ) → front ++ last ∷ [] ≢ []
not_nil [] last e = cc
not_nil (x ∷ front) last e = cc

-- equal keys have equal parents and last names
same_ends : (a b : List (List ℕ)) (x y : List ℕ) → a ++ x ∷ [] ≡ b ++ y ∷ [] → (a ≡ b) × (x ≡ y)
same_ends [] [] x y e = (refl, cc)
same_ends [] (k ∷ b) x y e = let rest : [] ≡ b ++ y ∷ [] = cc in absurd (not_nil b y (sym rest))
same_ends (k ∷ a) [] x y e = let rest : a ++ x ∷ [] ≡ [] = cc in absurd (not_nil a x rest)
same_ends (k ∷ a) (j ∷ b) x y e =
    let head : k ≡ j = cc in
    let rest : a ++ x ∷ [] ≡ b ++ y ∷ [] = cc in
    let ends = same_ends a b x y rest in
    let fronts = ends.0 in
    ((cc), ends.1)

-- the node is found at this key, or not
pub found : {X : Type 0} (o : Option X) (P : X → Type 0) → (o ≡ None → ⊥) → IfSome o P → (x : X) × (o ≡ Some x) × P x
found None P not h = absurd (not refl)
found (Some x) P not h = (x, refl, h)

-- the same of what holds of a node that is there
pub some_and : {X : Type 0} (o : Option X) (P : X → Type 0) → IsSomeAnd o P → (x : X) × (o ≡ Some x) × P x
some_and None P h = absurd h
some_and (Some x) P h = (x, refl, h)

-- keys that do not tie are two
differ : (k key : List (List ℕ)) (r : Ordering) → key_cmp k key ≡ r → (Equal ≡ r → ⊥) → k ≢ key
differ k key r e not same = not (sym (subst (λ x. key_cmp k x ≡ Equal) same (tied_itself key_cmp-total k)) ∙ e)

-- two keys are one or not
pub differ_or : {P : Type 0} (k key : List (List ℕ)) → (k ≡ key → P) → ((k ≢ key) → P) → P
differ_or {P} k key same apart =
    elim (key_cmp k key) as (λ r. key_cmp k key ≡ r → P) [
      | Less ↦ λ e. apart (differ k key Less e (λ h. cc))
      | Equal ↦ λ e. same (key_cmp-IsAntisymmetric k key e)
      | Greater ↦ λ e. apart (differ k key Greater e (λ h. cc))
    ] refl

module _ (tree : Tree) (key : List (List ℕ)) (node : Node) (kinds : (old : Node) → get tree key ≡ Some old → old.kind ≡ Dir → node.kind ≡ Dir) where
  -- at another key
  dir-other : (n : List ℕ) (ns : List (List ℕ)) → IsDirectory tree (n ∷ ns) → (n ∷ ns ≢ key) → IsDirectory (insert tree key node) (n ∷ ns)
  dir-other n ns is not =
      let same = get-inserted_other tree key node (n ∷ ns) not in
      (subst (λ o. IfSome o (λ x. x.kind ≡ Dir)) (sym same) is.0, λ none. is.1 (sym same ∙ none))

  -- and at this one
  dir-here : (n : List ℕ) (ns : List (List ℕ)) → IsDirectory tree (n ∷ ns) → n ∷ ns ≡ key → IsDirectory (insert tree key node) (n ∷ ns)
  dir-here n ns is same =
      let old = found (get tree (n ∷ ns)) (λ x. x.kind ≡ Dir) is.1 is.0 in
      let now : get (insert tree key node) (n ∷ ns) ≡ Some node = subst (λ k. get (insert tree key node) k ≡ Some node) (sym same) (get-inserted tree key node) in
      let dir = kinds old.0 (ap (get tree) (sym same) ∙ old.1) old.2 in
      (subst (λ o. IfSome o (λ x. x.kind ≡ Dir)) (sym now) dir, λ none. (let no : Some node ≡ None = sym now ∙ none in cc))

  -- a node with this key stays a directory
  pub IsDirectory-insert : (dir : List (List ℕ)) → IsDirectory tree dir → IsDirectory (insert tree key node) dir
  IsDirectory-insert [] is = tt
  IsDirectory-insert (n ∷ ns) is =
      elim (key_cmp (n ∷ ns) key) as (λ r. key_cmp (n ∷ ns) key ≡ r → IsDirectory (insert tree key node) (n ∷ ns)) [
        | Less ↦ λ e. dir-other n ns is (differ (n ∷ ns) key Less e (λ h. cc))
        | Equal ↦ λ e. dir-here n ns is (key_cmp-IsAntisymmetric (n ∷ ns) key e)
        | Greater ↦ λ e. dir-other n ns is (differ (n ∷ ns) key Greater e (λ h. cc))
      ] refl

module _ (tree : Tree) (parent : List (List ℕ)) (name : List ℕ) (node : Node) (is : IsTree tree) (fits : FitsAt tree parent name node) (kinds : (old : Node) → get tree (parent ++ name ∷ []) ≡ Some old → old.kind ≡ Dir → node.kind ≡ Dir) where
  abbrev key : List (List ℕ)
  key = parent ++ name ∷ []

  abbrev new : Tree
  new = insert tree (parent ++ name ∷ []) node

  -- directories stay
  keeps : (dir : List (List ℕ)) → IsDirectory tree dir → IsDirectory new dir
  keeps = IsDirectory-insert tree key node kinds

  -- the node that was put fits
  fit-here : (p : List (List ℕ)) (m : List ℕ) → p ++ m ∷ [] ≡ key → IfSome (get new (p ++ m ∷ [])) (FitsAt new p m)
  fit-here p m same =
      let ends = same_ends p parent m name same in
      let a = ends.0 in
      let b = ends.1 in
      let fit : FitsAt new parent name node = record { spelled = fits.spelled; named = fits.named; within = keeps parent fits.within; depth = fits.depth; no_bytes = fits.no_bytes } in
      let moved : FitsAt new p m node = subst (λ x. FitsAt new p x node) (sym b) (subst (λ x. FitsAt new x name node) (sym a) fit) in
      let now : get new (p ++ m ∷ []) ≡ Some node = subst (λ k. get new k ≡ Some node) (sym same) (get-inserted tree key node) in
      subst (λ o. IfSome o (FitsAt new p m)) (sym now) moved

  -- one that fitted still does
  carried : (p : List (List ℕ)) (m : List ℕ) (o : Option Node) → IfSome o (FitsAt tree p m) → IfSome o (FitsAt new p m)
  carried p m None h = tt
  carried p m (Some x) h = record { spelled = h.spelled; named = h.named; within = keeps p h.within; depth = h.depth; no_bytes = h.no_bytes }

  -- so at the other keys
  fit-other : (p : List (List ℕ)) (m : List ℕ) → (p ++ m ∷ [] ≢ key) → IfSome (get new (p ++ m ∷ [])) (FitsAt new p m)
  fit-other p m not = subst (λ o. IfSome o (FitsAt new p m)) (sym (get-inserted_other tree key node (p ++ m ∷ []) not)) (carried p m (get tree (p ++ m ∷ [])) (is.1 p m))

  -- and at every key
  fit-each : (p : List (List ℕ)) (m : List ℕ) → IfSome (get new (p ++ m ∷ [])) (FitsAt new p m)
  fit-each p m =
      elim (key_cmp (p ++ m ∷ []) key) as (λ r. key_cmp (p ++ m ∷ []) key ≡ r → IfSome (get new (p ++ m ∷ [])) (FitsAt new p m)) [
        | Less ↦ λ e. fit-other p m (differ (p ++ m ∷ []) key Less e (λ h. cc))
        | Equal ↦ λ e. fit-here p m (key_cmp-IsAntisymmetric (p ++ m ∷ []) key e)
        | Greater ↦ λ e. fit-other p m (differ (p ++ m ∷ []) key Greater e (λ h. cc))
      ] refl

  -- a node that fits is put into a tree
  pub IsTree-insert : IsTree (insert tree (parent ++ name ∷ []) node)
  IsTree-insert = (get-inserted_other tree key node [] (λ e. not_nil parent name (sym e)) ∙ is.0, fit-each)

-- how a node of a tree fits where it stands
pub node_fits : (tree : Tree) (parent : List (List ℕ)) (name : List ℕ) (node : Node) → IsTree tree → get tree (parent ++ name ∷ []) ≡ Some node → FitsAt tree parent name node
node_fits tree parent name node is at = subst (λ o. IfSome o (FitsAt tree parent name)) at (is.1 parent name)

-- a node is changed in place: its spelling and its kind stay
pub IsTree-changed : (tree : Tree) (key : List (List ℕ)) (old new : Node) → IsTree tree → get tree key ≡ Some old → new.spelling ≡ old.spelling → new.kind ≡ old.kind → (new.kind ≡ Dir → new.bytes ≡ []) → IsTree (insert tree key new)
IsTree-changed tree [] old new is at spelling kind empty = (let no : None ≡ Some old = sym is.0 ∙ at in cc)
IsTree-changed tree (n ∷ ns) old new is at spelling kind empty =
    let ends = snoc n ns in
    let front = take (length ns) (n ∷ ns) in
    let at_end : get tree (front ++ ends.0 ∷ []) ≡ Some old = subst (λ k. get tree k ≡ Some old) ends.1 at in
    let fits = node_fits tree front ends.0 old is at_end in
    let fit : FitsAt tree front ends.0 new = record { spelled = ap folded spelling ∙ fits.spelled; named = ap name_fault spelling ∙ fits.named; within = fits.within; depth = fits.depth; no_bytes = empty } in
    subst (λ k. IsTree (insert tree k new)) (sym ends.1) (IsTree-insert tree front ends.0 new is fit (λ x was dir. (let same : Some x ≡ Some old = sym was ∙ at_end in let one : x ≡ old = cc in kind ∙ ap (λ y. y.kind) (sym one) ∙ dir)))

-- a node comes to a path at which nothing stood
pub IsTree-added : (tree : Tree) (path : List (List ℕ)) (node : Node) → IsTree tree → IsSomeAnd (parent_of path) (λ parent. IsDirectory tree (key_of parent)) → get tree (key_of path) ≡ None
    → node.spelling ≡ last_name path → length path ≤ 64 → (0 < length path → name_fault (last_name path) ≡ None) → (node.kind ≡ Dir → node.bytes ≡ []) → IsTree (insert tree (key_of path) node)
IsTree-added tree [] node is parent none spelling depth named empty = absurd parent
IsTree-added tree (n ∷ ns) node is parent none spelling depth named empty =
    let front = key_of (take (length ns) (n ∷ ns)) in
    let last = folded (last_name (n ∷ ns)) in
    let key = key_of-snoc n ns in
    let long : length (key_of (n ∷ ns)) ≤ 64 = rw length-map depth in
    let fit : FitsAt tree front last node = record { spelled = ap folded spelling; named = ap name_fault spelling ∙ named (omega arith); within = parent; depth = subst (λ k. length k ≤ 64) key long; no_bytes = empty } in
    subst (λ k. IsTree (insert tree k node)) (sym key) (IsTree-insert tree front last node is fit (λ old was dir. (let no : Some old ≡ None = sym was ∙ ap (get tree) (sym key) ∙ none in cc)))

-- what stands in a directory's way

-- a directory that is found has its kind
kind-dir : (tree : Tree) (dir : List (List ℕ)) (node : Node) → IsDirectory tree dir → get tree dir ≡ Some node → IsTree tree → node.kind ≡ Dir
kind-dir tree [] node dir at is = (let no : None ≡ Some node = sym is.0 ∙ at in cc)
kind-dir tree (n ∷ ns) node dir at is = subst (λ o. IfSome o (λ x. x.kind ≡ Dir)) at dir.0

-- what is never found is absent
pub none_if : {X : Type 0} (o : Option X) → ((o ≡ None → ⊥) → ⊥) → o ≡ None
none_if None h = refl
none_if (Some x) h = absurd (h (λ e. cc))

-- what is removable stands, and has nothing in it
pub removable-stands : (tree : Tree) (key : List (List ℕ)) → IsRemovable tree key → (node : Node) × (get tree key ≡ Some node) × (node.kind ≡ Dir → (name : List ℕ) → get tree (key ++ name ∷ []) ≡ None)
removable-stands tree key h = some_and (get tree key) (λ node. node.kind ≡ Dir → (name : List ℕ) → get tree (key ++ name ∷ []) ≡ None) h

pub no_child : (tree : Tree) (key : List (List ℕ)) → IsTree tree → IsRemovable tree key → (name : List ℕ) → get tree (key ++ name ∷ []) ≡ None
no_child tree key is h name = none_if (get tree (key ++ name ∷ [])) (λ stands.
    (let node = removable-stands tree key h in
    let child = found (get tree (key ++ name ∷ [])) (FitsAt tree key name) stands (is.1 key name) in
    stands (node.2 (kind-dir tree key node.0 child.2.within node.1 is) name)))

module _ (old new : Tree) (key : List (List ℕ)) (is : IsTree old) (free : IsRemovable old key) (gone : get new key ≡ None) (others : (other : List (List ℕ)) → other ≢ key → get new other ≡ get old other) where
  -- the directory of what stands is not the one that went
  dir-kept : (dir : List (List ℕ)) (name : List ℕ) → (get old (dir ++ name ∷ []) ≡ None → ⊥) → IsDirectory old dir → IsDirectory new dir
  dir-kept [] name stands dir = tt
  dir-kept (n ∷ ns) name stands dir =
      let apart : n ∷ ns ≢ key = λ e. stands (ap (λ k. get old (k ++ name ∷ [])) e ∙ no_child old key is free name) in
      let same = others (n ∷ ns) apart in
      (subst (λ o. IfSome o (λ x. x.kind ≡ Dir)) (sym same) dir.0, λ none. dir.1 (sym same ∙ none))

  left : (p : List (List ℕ)) (m : List ℕ) (o : Option Node) → get old (p ++ m ∷ []) ≡ o → IfSome o (FitsAt old p m) → IfSome o (FitsAt new p m)
  left p m None at h = tt
  left p m (Some x) at h = record { spelled = h.spelled; named = h.named; within = dir-kept p m (λ none. (let no : Some x ≡ None = sym at ∙ none in cc)) h.within; depth = h.depth; no_bytes = h.no_bytes }

  fit-left : (p : List (List ℕ)) (m : List ℕ) → IfSome (get new (p ++ m ∷ [])) (FitsAt new p m)
  fit-left p m =
      elim (key_cmp (p ++ m ∷ []) key) as (λ r. key_cmp (p ++ m ∷ []) key ≡ r → IfSome (get new (p ++ m ∷ [])) (FitsAt new p m)) [
        | Less ↦ λ e. other p m (differ (p ++ m ∷ []) key Less e (λ h. cc))
        | Equal ↦ λ e. subst (λ o. IfSome o (FitsAt new p m)) (sym (ap (get new) (key_cmp-IsAntisymmetric (p ++ m ∷ []) key e) ∙ gone)) tt
        | Greater ↦ λ e. other p m (differ (p ++ m ∷ []) key Greater e (λ h. cc))
      ] refl
    where
      other : (p : List (List ℕ)) (m : List ℕ) → (p ++ m ∷ [] ≢ key) → IfSome (get new (p ++ m ∷ [])) (FitsAt new p m)
      other p m apart = subst (λ o. IfSome o (FitsAt new p m)) (sym (others (p ++ m ∷ []) apart)) (left p m (get old (p ++ m ∷ [])) refl (is.1 p m))

  -- what is left is a tree
  pub IsTree-removed : IsTree new
  IsTree-removed =
      let node = removable-stands old key free in
      let root : [] ≢ key = λ e. (let no : None ≡ Some node.0 = sym is.0 ∙ ap (get old) e ∙ node.1 in cc) in
      (others [] root ∙ is.0, fit-left)

-- a directory of a tree has no bytes
pub no_bytes-in : (tree : Tree) (key : List (List ℕ)) (node : Node) → IsTree tree → get tree key ≡ Some node → node.kind ≡ Dir → node.bytes ≡ []
no_bytes-in tree [] node is at = (let no : None ≡ Some node = sym is.0 ∙ at in cc)
no_bytes-in tree (n ∷ ns) node is at =
    let ends = snoc n ns in
    (node_fits tree (take (length ns) (n ∷ ns)) ends.0 node is (ap (get tree) (sym ends.1) ∙ at)).no_bytes
