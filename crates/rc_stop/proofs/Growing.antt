-- A tree that grows key by key, over rising keys, has at each key below a directory what was to stand there.
use Rattle.std.proofs.Common.{◌≡◌, ◌≢◌, ◌⊎◌, ◌<◌, inl, inr, ℕ, arith, Bool, true, false, cond, List, [], ◌∷◌, ◌++◌, length, map, Option, Some, None, refl, sym, ap, subst, ◌∙◌}
use Rattle.std.specs.Prelude.{IfSome, IsSomeAnd, option_map, unwrap_or}
use Rattle.std.specs.List.{AllByRecursion}
use Rattle.std.specs.List.Sorted.{IsStrictlySortedBy}
use Rattle.std.specs.Map.{keys_of, lookup}
use Rattle.std.specs.Ordering.{is_eq, eq_by_cmp, ordering_reverse, ordering_then}
use Rattle.std.specs.Cmp.{tied_itself}
use Rattle.std.specs.declared.cmp.Ordering.TheVariants.{Less, Greater}
use Rattle.std.specs.FinMap.{empty, get, get-empty, insert}
use Rattle.std.proofs.lemmas.Map.Keys.{sorted_head, sorted_tail}
use Rattle.rc_tree.specs.declared.attr.Kind.{Kind}
use Rattle.rc_tree.specs.declared.attr.Kind.TheVariants.{Dir, File}
use Rattle.rc_tree.specs.Path.{key_cmp, key_of, parent_of}
use Rattle.rc_tree.specs.Tree.{Node, Tree, IsDirectory, IsTree}
use Rattle.rc_tree.proofs.Fronts.{above-more, by_last, parent-more}
use Rattle.rc_tree.proofs.Keys.{below_not_same, key_cmp-total, key_itself, name_cmp-total, same_key, same_tree}
use Rattle.rc_stop.specs.Grown.{grown, grown_by, picked_from}
use Rattle.rc_mem.specs.Directories.{dir_above, found_dir, is_dir, is_dir_kind}
use Rattle.rc_stop.specs.Stops.{IsPicked}
use Rattle.rc_stop.proofs.Picks.{not_own, same_dir}
use Rattle.rc_mem.proofs.Parents.{parent-key}
use Rattle.rc_mem.proofs.Trees.{get-inserted, get-inserted_other, none_if}

-- Directories

dir_kind : (kind : Kind) → is_dir_kind kind ≡ true → kind ≡ Dir
dir_kind Dir e = refl
dir_kind File e = cc

dir_found : (found : Option Node) → found_dir found ≡ true → IfSome found (λ node. node.kind ≡ Dir) × (found ≢ None)
dir_found None e = cc
dir_found (Some node) e = (dir_kind node.kind e, λ none. cc)

found_there : (found : Option Node) → IfSome found (λ node. node.kind ≡ Dir) → found ≢ None → found_dir found ≡ true
found_there None dir there = absurd (there refl)
found_there (Some node) dir there = ap is_dir_kind dir

pub directory-from : (tree : Tree) (key : List (List ℕ)) → is_dir tree key ≡ true → IsDirectory tree key
directory-from tree [] e = tt
directory-from tree (n ∷ ns) e = dir_found (get tree (n ∷ ns)) e

directory-to : (tree : Tree) (key : List (List ℕ)) → IsDirectory tree key → is_dir tree key ≡ true
directory-to tree [] is = refl
directory-to tree (n ∷ ns) is = found_there (get tree (n ∷ ns)) is.0 is.1

-- at a path that is not the root
pub is_dir-at : (tree : Tree) (path : List (List ℕ)) (found : Option Node) → length path ≢ 0 → found ≡ get tree (key_of path) → found_dir found ≡ is_dir tree (key_of path)
is_dir-at tree [] found some at = absurd (some refl)
is_dir-at tree (n ∷ ns) found some at = ap found_dir at

pub is_dir-root : (tree : Tree) (path : List (List ℕ)) → length path ≡ 0 → true ≡ is_dir tree (key_of path)
is_dir-root tree [] none = refl
is_dir-root tree (n ∷ ns) none = cc

pub above-from : (tree : Tree) (path : List (List ℕ)) → dir_above tree (parent_of (key_of path)) ≡ true → IsSomeAnd (parent_of path) (λ parent. IsDirectory tree (key_of parent))
above-from tree path e = at (parent_of path) (ap (dir_above tree) (sym (parent-key path)) ∙ e)
  where
    at : (parent : Option (List (List ℕ))) → dir_above tree (option_map key_of parent) ≡ true → IsSomeAnd parent (λ dir. IsDirectory tree (key_of dir))
    at None e = cc
    at (Some dir) e = directory-from tree (key_of dir) e

-- Growing

-- no entry has the key
abbrev Apart : List (List ℕ) → List (List (List ℕ) × Option Node) → Type 0
Apart key [] = Unit {0}
Apart key (entry ∷ entries) = (key ≢ entry.0) × Apart key entries

-- nothing stands where an entry comes
abbrev pub NoneAt : Tree → List (List (List ℕ) × Option Node) → Type 0
NoneAt image [] = Unit {0}
NoneAt image (entry ∷ entries) = (get image entry.0 ≡ None) × NoneAt image entries

-- below a directory each entry stands as it came
abbrev Stands : Tree → List (List (List ℕ) × Option Node) → Type 0
Stands image [] = Unit {0}
Stands image (entry ∷ entries) = ((dir : List (List ℕ)) (name : List ℕ) → entry.0 ≡ dir ++ name ∷ [] → IsDirectory image dir → get image entry.0 ≡ entry.1) × Stands image entries

grown_by-apart : (key : List (List ℕ)) (node : Option Node) (image : Tree) (other : List (List ℕ)) → other ≢ key → get (grown_by (key, node) image) other ≡ get image other
grown_by-apart key None image other apart = refl
grown_by-apart key (Some node) image other apart = elim (dir_above image (parent_of key)) as (λ b. get (cond b (insert image key node) image) other ≡ get image other) [
  | true ↦ get-inserted_other image key node other apart
  | false ↦ refl
]

grown-apart : (entries : List (List (List ℕ) × Option Node)) (image : Tree) (other : List (List ℕ)) → Apart other entries → get (grown entries image) other ≡ get image other
grown-apart [] image other apart = refl
grown-apart (entry ∷ entries) image other apart = grown-apart entries (grown_by entry image) other apart.1 ∙ grown_by-apart entry.0 entry.1 image other apart.0

grows-here : (key : List (List ℕ)) (node : Option Node) (image : Tree) (dir : List (List ℕ)) (name : List ℕ) → key ≡ dir ++ name ∷ [] → IsDirectory image dir → get image key ≡ None → get (grown_by (key, node) image) key ≡ node
grows-here key None image dir name at is none = none
grows-here key (Some node) image dir name at is none =
    ap (λ b. get (cond b (insert image key node) image) key) (ap (dir_above image) (ap parent_of at ∙ parent-more dir name) ∙ directory-to image dir is) ∙ get-inserted image key node

-- a directory lies before what stands in it
dir_before : (dir : List (List ℕ)) (name : List ℕ) → key_cmp dir (dir ++ name ∷ []) ≡ Less
dir_before [] name = refl
dir_before (d ∷ dir) name = ap (λ r. ordering_then r (key_cmp dir (dir ++ name ∷ []))) (tied_itself name_cmp-total d) ∙ dir_before dir name

not_both : (a b : List (List ℕ)) → key_cmp a b ≡ Less → key_cmp b a ≡ Less → ⊥
not_both a b one two = (let turned : Less ≡ Greater = sym two ∙ key_cmp-total.antisymm b a ∙ ap ordering_reverse one in cc)

apart-first : (key : List (List ℕ)) (entries : List (List (List ℕ) × Option Node)) → AllByRecursion (λ k. key_cmp key k ≡ Less) (keys_of entries) → Apart key entries
apart-first key [] above = tt
apart-first key (entry ∷ entries) above = (λ same. below_not_same key entry.0 above.0 (sym same), apart-first key entries above.1)

apart-dir : (key dir : List (List ℕ)) (name : List ℕ) (entries : List (List (List ℕ) × Option Node)) → key ≡ dir ++ name ∷ [] → AllByRecursion (λ k. key_cmp key k ≡ Less) (keys_of entries) → Apart dir entries
apart-dir key dir name [] at above = tt
apart-dir key dir name (entry ∷ entries) at above =
    (λ same. not_both key dir (ap (key_cmp key) same ∙ above.0) (ap (key_cmp dir) at ∙ dir_before dir name), apart-dir key dir name entries at above.1)

none-still : (key : List (List ℕ)) (came : Option Node) (image : Tree) (entries : List (List (List ℕ) × Option Node)) → Apart key entries → NoneAt image entries → NoneAt (grown_by (key, came) image) entries
none-still key came image [] apart absent = tt
none-still key came image (entry ∷ entries) apart absent = (grown_by-apart key came image entry.0 (λ same. apart.0 (sym same)) ∙ absent.0, none-still key came image entries apart.1 absent.1)

grown-stands : (entries : List (List (List ℕ) × Option Node)) (image : Tree) → IsStrictlySortedBy key_cmp (keys_of entries) → NoneAt image entries → Stands (grown entries image) entries
grown-stands [] image sorted none = tt
grown-stands (entry ∷ entries) image sorted none =
    let above = sorted_head key_cmp entry.0 (keys_of entries) sorted in
    let here = apart-first entry.0 entries above in (
      λ dir name at is.
          let back : get (grown entries (grown_by entry image)) dir ≡ get image dir =
          grown-apart entries (grown_by entry image) dir (apart-dir entry.0 dir name entries at above) ∙ grown_by-apart entry.0 entry.1 image dir (not_own dir name entry.0 (sym at)) in
          grown-apart entries (grown_by entry image) entry.0 here ∙ grows-here entry.0 entry.1 image dir name at (same_dir image (grown entries (grown_by entry image)) dir (sym back) is) none.0,
      grown-stands entries (grown_by entry image) (sorted_tail key_cmp entry.0 (keys_of entries) sorted) (none-still entry.0 entry.1 image entries here none.1),
    )

-- Picking

module _ (kept reads : Tree) where
  abbrev pub at_each : List (List (List ℕ) × Bool) → List (List (List ℕ) × Option Node)
  at_each drawn = map (picked_from kept reads) drawn

  same_keys : (drawn : List (List (List ℕ) × Bool)) → keys_of (at_each drawn) ≡ keys_of drawn
  same_keys [] = refl
  same_keys (entry ∷ drawn) = ap (λ ks. entry.0 ∷ ks) (same_keys drawn)

  pub none-empty : (drawn : List (List (List ℕ) × Bool)) → NoneAt empty (at_each drawn)
  none-empty [] = tt
  none-empty (entry ∷ drawn) = (get-empty key_cmp entry.0, none-empty drawn)

  -- nothing stands where the entries that are left come
  pub none-next : (key : List (List ℕ)) (odd : Bool) (rest : List (List (List ℕ) × Bool)) (image : Tree) → IsStrictlySortedBy key_cmp (keys_of ((key, odd) ∷ rest)) → NoneAt image (at_each ((key, odd) ∷ rest)) → NoneAt (grown_by (picked_from kept reads (key, odd)) image) (at_each rest)
  none-next key odd rest image sorted none =
      none-still key (get (cond odd kept reads) key) image (at_each rest) (apart-first key (at_each rest) (subst (AllByRecursion (λ k. key_cmp key k ≡ Less)) (sym (same_keys rest)) (sorted_head key_cmp key (keys_of rest) sorted))) none.1

  apart-none : (key : List (List ℕ)) (drawn : List (List (List ℕ) × Bool)) → lookup (λ k. is_eq (key_cmp key k)) drawn ≡ None → Apart key (at_each drawn)
  apart-none key [] none = tt
  apart-none key (entry ∷ drawn) none = elim (is_eq (key_cmp key entry.0)) as (λ b. is_eq (key_cmp key entry.0) ≡ b → cond b (Some entry.1) (lookup (λ k. is_eq (key_cmp key k)) drawn) ≡ None → (key ≢ entry.0) × Apart key (at_each drawn)) [
    | true ↦ λ e h. cc
    | false ↦ λ e h. (λ same. (let no : true ≡ false = sym (key_itself key) ∙ ap (eq_by_cmp key_cmp key) same ∙ e in cc), apart-none key drawn h)
  ] refl none

  pick-at : (image : Tree) (dir : List (List ℕ)) (name : List ℕ) → IsDirectory image dir → (drawn : List (List (List ℕ) × Bool)) → Stands image (at_each drawn)
      → (lookup (λ k. is_eq (key_cmp (dir ++ name ∷ []) k)) drawn ≡ None → get image (dir ++ name ∷ []) ≡ get reads (dir ++ name ∷ []))
      → get image (dir ++ name ∷ []) ≡ get (cond (unwrap_or (lookup (λ k. is_eq (key_cmp (dir ++ name ∷ []) k)) drawn) false) kept reads) (dir ++ name ∷ [])
  pick-at image dir name is [] stands none = none refl
  pick-at image dir name is (entry ∷ drawn) stands none =
      elim (is_eq (key_cmp (dir ++ name ∷ []) entry.0)) as (λ b. is_eq (key_cmp (dir ++ name ∷ []) entry.0) ≡ b → (cond b (Some entry.1) (lookup (λ k. is_eq (key_cmp (dir ++ name ∷ []) k)) drawn) ≡ None → get image (dir ++ name ∷ []) ≡ get reads (dir ++ name ∷ []))
      → get image (dir ++ name ∷ []) ≡ get (cond (unwrap_or (cond b (Some entry.1) (lookup (λ k. is_eq (key_cmp (dir ++ name ∷ []) k)) drawn)) false) kept reads) (dir ++ name ∷ [])) [
        | true ↦ λ e h. (let same : dir ++ name ∷ [] ≡ entry.0 = same_key (dir ++ name ∷ []) entry.0 e in
            ap (get image) same ∙ stands.0 dir name (sym same) is ∙ ap (get (cond entry.1 kept reads)) (sym same))
        | false ↦ λ e h. pick-at image dir name is drawn stands.1 h
      ] refl none

  -- what has grown is what is picked
  pub picked-grown : (drawn : List (List (List ℕ) × Bool)) (image : Tree) → IsStrictlySortedBy key_cmp (keys_of drawn) → ((key : List (List ℕ)) → lookup (λ k. is_eq (key_cmp key k)) drawn ≡ None → get reads key ≡ None)
      → IsTree image → image ≡ grown (at_each drawn) empty → IsPicked (λ key. unwrap_or (lookup (λ k. is_eq (key_cmp key k)) drawn) false) kept reads image
  picked-grown drawn image sorted all tree is = record {
    tree = tree;
    each = λ dir name dir_is. pick-at image dir name dir_is drawn
        (subst (λ t. Stands t (at_each drawn)) (sym is) (grown-stands (at_each drawn) empty (subst (IsStrictlySortedBy key_cmp) (sym (same_keys drawn)) sorted) (none-empty drawn)))
        (λ none. ap (λ t. get t (dir ++ name ∷ [])) is ∙ grown-apart (at_each drawn) empty (dir ++ name ∷ []) (apart-none (dir ++ name ∷ []) drawn none) ∙ get-empty key_cmp (dir ++ name ∷ []) ∙ sym (all (dir ++ name ∷ []) none));
  }

-- What was picked

-- what is picked has at each key what reads or what was synced last
pub no-entries : (es : List (List (List ℕ) × Bool)) → (0 < length es → false ≡ true) → es ≡ []
no-entries [] some = refl
no-entries (e ∷ es) some = (let closed : false ≡ true = some (omega arith) in cc)

module _ (odd : List (List ℕ) → Bool) (kept reads image : Tree) (kept_is : IsTree kept) (reads_is : IsTree reads) (picked : IsPicked odd kept reads image) where
  abbrev Either : List (List ℕ) → Type 0
  Either key = (get image key ≡ get reads key) ⊎ (get image key ≡ get kept key)

  -- below what is no directory nothing is left, as in the tree that has this
  nothing : (tree : Tree) (dir : List (List ℕ)) (name : List ℕ) → IsTree tree → get image dir ≡ get tree dir → is_dir image dir ≡ false → get tree (dir ++ name ∷ []) ≡ None
  nothing tree dir name is same closed = none_if (get tree (dir ++ name ∷ [])) (λ there.
      (let yes : true ≡ false = sym (directory-to image dir (same_dir image tree dir same (above-more tree dir name is there))) ∙ closed in cc))

  either-below : (dir : List (List ℕ)) (name : List ℕ) → Either dir → is_dir image dir ≡ false → Either (dir ++ name ∷ [])
  either-below dir name (inl same) closed = inl (nothing image dir name picked.tree refl closed ∙ sym (nothing reads dir name reads_is same closed))
  either-below dir name (inr same) closed = inr (nothing image dir name picked.tree refl closed ∙ sym (nothing kept dir name kept_is same closed))

  either-chosen : (dir : List (List ℕ)) (name : List ℕ) (b : Bool) → get image (dir ++ name ∷ []) ≡ get (cond b kept reads) (dir ++ name ∷ []) → Either (dir ++ name ∷ [])
  either-chosen dir name true same = inr same
  either-chosen dir name false same = inl same

  either-more : (dir : List (List ℕ)) (name : List ℕ) → Either dir → Either (dir ++ name ∷ [])
  either-more dir name above = elim (is_dir image dir) as (λ b. is_dir image dir ≡ b → Either (dir ++ name ∷ [])) [
    | true ↦ λ e. either-chosen dir name (odd (dir ++ name ∷ [])) (picked.each dir name (directory-from image dir e))
    | false ↦ λ e. either-below dir name above e
  ] refl

  pub picked-either : (key : List (List ℕ)) → Either key
  picked-either key = by_last Either (inl (picked.tree.0 ∙ sym reads_is.0)) either-more key

-- what is picked of one tree is that tree
pub picked-same : (odd : List (List ℕ) → Bool) (tree image : Tree) → IsTree tree → IsPicked odd tree tree image → image ≡ tree
picked-same odd tree image is picked = same_tree image tree (λ key. elim (picked-either odd tree tree image is is picked key) [
  | inl same ↦ same
  | inr same ↦ same
])
