-- The first node from the floor of a directory on: what a listing shows next, or that it ends.
use Rattle.std.proofs.Common.{◌≡◌, ℕ, zero, suc, ◌+◌, ◌-◌, ◌<◌, false, List, [], ◌∷◌, ◌++◌, length, take, inl, inr, Option, Some, None, refl, sym, ap, subst, ◌∙◌, arith, length-append, length-take}
use Rattle.std.specs.Ordering.{is_gt, nat_cmp, ordering_then}
use Rattle.std.specs.declared.cmp.Ordering.{Ordering}
use Rattle.std.specs.declared.cmp.Ordering.TheVariants.{Less, Equal, Greater}
use Rattle.std.specs.FinMap.{get}
use Rattle.std.specs.Prelude.{IfSome, IsSome, option_map}
use Rattle.std.specs.List.{slice_get}
use Rattle.std.specs.BTreeMap as btree
use Rattle.std.specs.BTreeMap.Range.{IsEntryInRange, IsLeBy, IsRangeOf}
use Rattle.std.specs.declared.ops.Bound.TheVariants.{Included, Unbounded}
use Rattle.std.proofs.lemmas.Bool.{cases_lt}
use Rattle.std.proofs.lemmas.Cmp.{ranked}
use Rattle.std.proofs.lemmas.List.{take_all, take_at, take-take, length-map}
use Rattle.rc_tree.specs.Name.{folded}
use Rattle.rc_tree.specs.Path.{key_of, last_name, name_cmp, key_cmp, floor_of}
use Rattle.rc_tree.specs.Tree.{Tree, FitsAt, IsDirectory, IsTree}
use Rattle.rc_tree.proofs.Keys.{name_cmp-total, key_cmp-total, key_cmp-IsAntisymmetric}
use Rattle.rc_volume.specs.Site.{ComesAfter, IsEnd}
use Rattle.rc_mem.specs.declared.node.TreeNode.{TreeNode}
use Rattle.rc_mem.specs.Nodes.{node_of}
use Rattle.rc_mem.specs.Held.{NodeMap, IsSound, tree_held}
use Rattle.rc_mem.specs.Listing.{IsChildOf, ShowsNext}
use Rattle.rc_mem.proofs.Order.{level, cmp-append_one, cmp-longer, cmp-front, take-keeps, turned, level_if, not_greater}
use Rattle.rc_mem.proofs.Sound.{get-held, held-from_stands, stands-held, if_at}
use Rattle.rc_mem.proofs.Trees.{snoc, key_of-snoc, found, none_if}

-- Floors

-- every name is from the least one on
from-nil : (name : List ℕ) → is_gt (name_cmp [] name) ≡ false
from-nil [] = refl
from-nil (c ∷ cs) = refl

zero-least : (c : ℕ) (r : Ordering) → is_gt r ≡ false → is_gt (ordering_then (nat_cmp 0 c) r) ≡ false
zero-least c r h = elim (nat_cmp 0 c) as (λ s. nat_cmp 0 c ≡ s → is_gt (ordering_then s r) ≡ false) [
  | Less ↦ λ _. refl
  | Equal ↦ λ _. h
  | Greater ↦ λ e. absurd (let lt = ranked 0 c Greater (sym e) in omega arith)
] refl

-- a name above another is from its floor on
floor-reaches : (f name : List ℕ) → name_cmp f name ≡ Less → is_gt (name_cmp (f ++ 0 ∷ []) name) ≡ false
floor-reaches [] [] less = cc
floor-reaches [] (c ∷ cs) less = zero-least c (name_cmp [] cs) (from-nil cs)
floor-reaches (d ∷ ds) [] less = cc
floor-reaches (d ∷ ds) (c ∷ cs) less = elim (nat_cmp d c) as (λ r. ordering_then r (name_cmp ds cs) ≡ Less → is_gt (ordering_then r (name_cmp (ds ++ 0 ∷ []) cs)) ≡ false) [
  | Less ↦ λ h. refl
  | Equal ↦ λ h. floor-reaches ds cs h
  | Greater ↦ λ h. cc
] less

-- and one from its floor on is above it
floor-passes : (f name : List ℕ) → is_gt (name_cmp (f ++ 0 ∷ []) name) ≡ false → name_cmp f name ≡ Less
floor-passes [] [] from = cc
floor-passes [] (c ∷ cs) from = refl
floor-passes (d ∷ ds) [] from = cc
floor-passes (d ∷ ds) (c ∷ cs) from = elim (nat_cmp d c) as (λ r. is_gt (ordering_then r (name_cmp (ds ++ 0 ∷ []) cs)) ≡ false → ordering_then r (name_cmp ds cs) ≡ Less) [
  | Less ↦ λ h. refl
  | Equal ↦ λ h. floor-passes ds cs h
  | Greater ↦ λ h. cc
] from

pub floor-from_after : (after : Option (List ℕ)) (name : List ℕ) → ComesAfter after name → is_gt (name_cmp (floor_of after) name) ≡ false
floor-from_after None name later = from-nil name
floor-from_after (Some last) name later = floor-reaches (folded last) name later

pub after-from_floor : (after : Option (List ℕ)) (name : List ℕ) → is_gt (name_cmp (floor_of after) name) ≡ false → ComesAfter after name
after-from_floor None name from = tt
after-from_floor (Some last) name from = floor-passes (folded last) name from

-- Keys of a tree

-- a directory that is not the root is found
dir_found : (tree : Tree) (dir : List (List ℕ)) → 0 < length dir → IsDirectory tree dir → get tree dir ≡ None → ⊥
dir_found tree [] some is = omega arith
dir_found tree (n ∷ ns) some is = is.1

-- each front of a key that stands in a tree stands there too
closed : (tree : Tree) → IsTree tree → (m : ℕ) (key : List (List ℕ)) (n : ℕ) → 0 < n → length key ≡ n + m → (get tree key ≡ None → ⊥) → get tree (take n key) ≡ None → ⊥
closed tree is zero key n some long stands none = stands (ap (get tree) (sym (take_all n key (omega arith))) ∙ none)
closed tree is (suc m) [] n some long stands none = omega arith
closed tree is (suc m) (k ∷ ks) n some long stands none =
    let ends = snoc k ks in
    let front = take (length ks) (k ∷ ks) in
    let there : get tree (front ++ ends.0 ∷ []) ≡ None → ⊥ = λ e. stands (ap (get tree) ends.1 ∙ e) in
    let fits = (found (get tree (front ++ ends.0 ∷ [])) (FitsAt tree front ends.0) there (is.1 front ends.0)).2 in
    let size : length front ≡ n + m = omega (arith, length-take (length ks) (k ∷ ks)) in
    closed tree is m front n some size (dir_found tree front (omega arith) fits.within) (ap (get tree) (take-take n (length ks) (k ∷ ks) (omega arith)) ∙ none)

-- how long a key with one name more is
long_one : (dir : List (List ℕ)) (name : List ℕ) → length (dir ++ name ∷ []) ≡ length dir + 1
long_one dir name = length-append dir (name ∷ [])

-- the key of a path with one name more than the directory whose key it begins with
key-child : (path dir : List (List ℕ)) → length path ≡ length dir + 1 → take (length dir) (key_of path) ≡ dir → key_of path ≡ dir ++ folded (last_name path) ∷ []
key-child [] dir long front = absurd (omega arith)
key-child (n ∷ ns) dir long front =
    let above = key_of (take (length ns) (n ∷ ns)) in
    let key = key_of-snoc n ns in
    let size : length above ≡ length dir = length-map (take (length ns) (n ∷ ns)) folded ∙ omega (arith, length-take (length ns) (n ∷ ns)) in
    let same : above ≡ dir = sym (take_at above (folded (last_name (n ∷ ns)) ∷ []) (length dir) size) ∙ ap (take (length dir)) (sym key) ∙ front in
    key ∙ ap (λ (k : List (List ℕ)). k ++ folded (last_name (n ∷ ns)) ∷ []) same

module _ (tree : Tree) (is : IsTree tree) (dir : List (List ℕ)) (after : Option (List ℕ)) where
  floor : List (List ℕ)
  floor = dir ++ floor_of after ∷ []

  -- an entry of the directory behind the name is from the floor on
  from-floor : (name : List ℕ) → ComesAfter after name → is_gt (key_cmp (dir ++ floor_of after ∷ []) (dir ++ name ∷ [])) ≡ false
  from-floor name later = ap is_gt (cmp-append_one name_cmp-total dir (floor_of after) name) ∙ floor-from_after after name later

  -- where nothing stands from the floor on, the listing ends
  pub end-if_none : ((q : List (List ℕ)) → is_gt (key_cmp (dir ++ floor_of after ∷ []) q) ≡ false → get tree q ≡ None) → IsEnd tree dir after
  end-if_none none name later = none (dir ++ name ∷ []) (from-floor name later)

  module _ (node : TreeNode) (at : get tree (key_of node.path) ≡ Some (node_of node)) (up : is_gt (key_cmp (dir ++ floor_of after ∷ []) (key_of node.path)) ≡ false)
      (least : (q : List (List ℕ)) → is_gt (key_cmp (dir ++ floor_of after ∷ []) q) ≡ false → (get tree q ≡ None → ⊥) → is_gt (key_cmp (key_of node.path) q) ≡ false) where
    -- the first node from the floor on, where it is an entry of the directory
    pub shows-child : length node.path ≡ length dir + 1 → take (length dir) (key_of node.path) ≡ dir → ShowsNext tree dir after node
    shows-child long begins =
        let last = folded (last_name node.path) in
        let key = key-child node.path dir long begins in
        let stands : get tree (dir ++ last ∷ []) ≡ Some (node_of node) = ap (get tree) (sym key) ∙ at in
        let here : get tree (dir ++ last ∷ []) ≡ None → ⊥ = λ none. (let no : Some (node_of node) ≡ None = sym stands ∙ none in cc) in
        let fits = (found (get tree (dir ++ last ∷ [])) (FitsAt tree dir last) here (is.1 dir last)).2 in
        record {
          shown = record {
            node = node_of node;
            stands = stands;
            shown = refl;
            later = after-from_floor after last (ap is_gt (sym (cmp-append_one name_cmp-total dir (floor_of after) last)) ∙ ap (λ (k : List (List ℕ)). is_gt (key_cmp (dir ++ floor_of after ∷ []) k)) (sym key) ∙ up);
            least = λ name later lower. none_if (get tree (dir ++ name ∷ [])) (λ there.
                not_greater (key_cmp (key_of node.path) (dir ++ name ∷ [])) (least (dir ++ name ∷ []) (from-floor name later) there)
                (ap (λ (k : List (List ℕ)). key_cmp k (dir ++ name ∷ [])) key ∙ cmp-append_one name_cmp-total dir last name ∙ turned name_cmp-total name last Less lower));
          };
          named = omega arith;
          depth = omega (arith, fits.depth, long_one dir last);
        }

    module _ (other : length node.path ≡ length dir + 1 → take (length dir) (key_of node.path) ≡ dir → ⊥) where
      key : List (List ℕ)
      key = key_of node.path

      -- its key begins with the directory's where an entry of that stands above it
      begins-if : (name : List ℕ) → is_gt (key_cmp (key_of node.path) (dir ++ name ∷ [])) ≡ false → take (length dir) (key_of node.path) ≡ dir
      begins-if name le =
          let k = key_of node.path in
          let low : is_gt (key_cmp dir (take (length dir) k)) ≡ false = subst (λ d. is_gt (key_cmp d (take (length dir) k)) ≡ false) (take_at dir (floor_of after ∷ []) (length dir) refl) (take-keeps name_cmp-total key_cmp-IsAntisymmetric (length dir) (dir ++ floor_of after ∷ []) k up) in
          let high : is_gt (key_cmp (take (length dir) k) dir) ≡ false = subst (λ d. is_gt (key_cmp (take (length dir) k) d) ≡ false) (take_at dir (name ∷ []) (length dir) refl) (take-keeps name_cmp-total key_cmp-IsAntisymmetric (length dir) k (dir ++ name ∷ []) le) in
          key_cmp-IsAntisymmetric _ _ (level (key_cmp (take (length dir) k) dir) high (subst (λ r. is_gt r ≡ false) (turned key_cmp-total (take (length dir) k) dir _ refl) low))

      -- it is no front of the directory's key
      longer : take (length dir) (key_of node.path) ≡ dir → length dir < length (key_of node.path)
      longer begins = elim (cases_lt (length dir) (length (key_of node.path))) [
        | inl lt ↦ lt
        | inr le ↦ (let whole : key_of node.path ≡ dir = sym (take_all (length dir) (key_of node.path) le) ∙ begins in
            absurd (not_greater (key_cmp (dir ++ floor_of after ∷ []) (key_of node.path)) up
            (ap (key_cmp (dir ++ floor_of after ∷ [])) whole ∙ turned key_cmp-total dir (dir ++ floor_of after ∷ []) Less (cmp-longer name_cmp-total dir (floor_of after) []))))
      ]

      -- and lies below no entry of the directory
      too_deep : take (length dir) (key_of node.path) ≡ dir → length dir + 1 < length (key_of node.path) → ⊥
      too_deep begins deeper =
          let k = key_of node.path in
          let t = take (length dir + 1) k in
          let size : length t ≡ length dir + 1 = omega (arith, length-take (length dir + 1) k) in
          let there = closed tree is (length k - (length dir + 1)) k (length dir + 1) (omega arith) (omega arith) (λ none. (let no : Some (node_of node) ≡ None = sym at ∙ none in cc)) in
          let from : is_gt (key_cmp (dir ++ floor_of after ∷ []) t) ≡ false = subst (λ d. is_gt (key_cmp d t) ≡ false) (take_all (length dir + 1) (dir ++ floor_of after ∷ []) (omega (arith, long_one dir (floor_of after)))) (take-keeps name_cmp-total key_cmp-IsAntisymmetric (length dir + 1) (dir ++ floor_of after ∷ []) k up) in
          let le = least t from there in
          let not_less = cmp-front name_cmp-total t k (ap (λ n. take n k) size) in
          let same : k ≡ t = key_cmp-IsAntisymmetric k t (level_if (key_cmp k t) le not_less) in
          omega (arith, ap length same)

      -- so the listing ends
      pub ends-gap : IsEnd tree dir after
      ends-gap name later = none_if (get tree (dir ++ name ∷ [])) (λ there.
          (let begins = begins-if name (least (dir ++ name ∷ []) (from-floor name later) there) in
          let more = longer begins in
          elim (cases_lt (length dir + 1) (length (key_of node.path))) [
            | inl deeper ↦ too_deep begins deeper
            | inr exact ↦ other (sym (length-map node.path folded) ∙ omega arith) begins
          ]))

-- In a map of nodes

module _ (m : NodeMap) (sound : IsSound m) (dir : List (List ℕ)) (after : Option (List ℕ)) (floor : List (List ℕ)) (is : floor ≡ key_of dir ++ floor_of after ∷ []) (r : List (List (List ℕ) × TreeNode)) (range : IsRangeOf key_cmp (Included floor) Unbounded m r) where
  abbrev start : List (List ℕ)
  start = key_of dir ++ floor_of after ∷ []

  moved : (q : List (List ℕ)) → is_gt (key_cmp (key_of dir ++ floor_of after ∷ []) q) ≡ false → is_gt (key_cmp floor q) ≡ false
  moved q h = subst (λ (f : List (List ℕ)). is_gt (key_cmp f q) ≡ false) (sym is) h

  -- nothing lies in the range
  pub next-none : r ≡ [] → IsEnd (tree_held m) (key_of dir) after
  next-none none = end-if_none (tree_held m) sound.tree (key_of dir) after (λ q up. get-held m q ∙ ap (option_map node_of) (range.5 none q (moved q up, tt)))

  module _ (k : List (List ℕ)) (node : TreeNode) (t : List (List (List ℕ) × TreeNode)) (first : r ≡ (k, node) ∷ t) where
    here : IsEntryInRange key_cmp (Included floor) Unbounded m (k, node)
    here = subst (λ (es : List (List (List ℕ) × TreeNode)). IfSome (slice_get es 0) (IsEntryInRange key_cmp (Included floor) Unbounded m)) first range.1

    keyed : key_of node.path ≡ k
    keyed = if_at (λ (x : TreeNode). key_of x.path ≡ k) (btree.get key_cmp m k) node (sound.keyed k) here.1

    stands : get (tree_held m) (key_of node.path) ≡ Some (node_of node)
    stands = ap (get (tree_held m)) keyed ∙ stands-held m k node here.1

    up : is_gt (key_cmp (key_of dir ++ floor_of after ∷ []) (key_of node.path)) ≡ false
    up = subst (λ (f : List (List ℕ)). is_gt (key_cmp f (key_of node.path)) ≡ false) is (subst (λ (q : List (List ℕ)). is_gt (key_cmp floor q) ≡ false) (sym keyed) here.0.0)

    least : (q : List (List ℕ)) → is_gt (key_cmp (key_of dir ++ floor_of after ∷ []) q) ≡ false → (get (tree_held m) q ≡ None → ⊥) → is_gt (key_cmp (key_of node.path) q) ≡ false
    least q from there =
        let other = held-from_stands m q there in
        subst (λ (x : List (List ℕ)). is_gt (key_cmp x q) ≡ false) (sym keyed)
        (subst (λ (es : List (List (List ℕ) × TreeNode)). IfSome (slice_get es 0) (λ e. IsLeBy key_cmp e.0 q)) first (range.2 q (moved q from, tt) (subst IsSome (sym other.1) refl)))

    -- the first one in it is an entry of the directory
    pub next-shown : IsChildOf dir node.path → ShowsNext (tree_held m) (key_of dir) after node
    next-shown child = shows-child (tree_held m) sound.tree (key_of dir) after node stands up least
        (omega (arith, child.deeper, length-map dir folded)) (subst (λ n. take n (key_of node.path) ≡ key_of dir) (sym (length-map dir folded)) child.begins)

    -- or it is not
    pub next-gap : (IsChildOf dir node.path → ⊥) → IsEnd (tree_held m) (key_of dir) after
    next-gap other = ends-gap (tree_held m) sound.tree (key_of dir) after node stands up least
        (λ long begins. other (record { deeper = omega (arith, long, length-map dir folded); begins = subst (λ n. take n (key_of node.path) ≡ key_of dir) (length-map dir folded) begins }))
