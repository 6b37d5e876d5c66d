-- How a tree spells paths: a path that it spells so is the one of its key, and it stays so where the tree grows.
use Rattle.std.proofs.Common.{◌≡◌, ◌≢◌, ℕ, ◌+◌, ◌<◌, ◌≤◌, Bool, true, false, ◌&&◌, cond, List, [], ◌∷◌, ◌++◌, length, take, drop, Option, Some, None, refl, sym, ap, subst, ◌∙◌, append_assoc, arith, inl, inr}
use Rattle.std.specs.Prelude.{T, IfSome, option_map}
use Rattle.std.specs.Str.{bytes_eq}
use Rattle.std.specs.FinMap.{get, entries, find, is_sorted, entries_sorted, get-entries}
use Rattle.std.specs.FinMap.Entries.{below_all}
use Rattle.std.specs.Ordering.{is_lt, eq_by_cmp, ordering_then}
use Rattle.std.specs.Cmp.{tied_itself}
use Rattle.std.specs.declared.cmp.Ordering.{Ordering}
use Rattle.std.specs.declared.cmp.Ordering.TheVariants.{Less, Equal, Greater}
use Rattle.std.proofs.lemmas.Bool.{cases_lt, and_parts, and_from}
use Rattle.std.proofs.lemmas.List.{length-append, map-append, take_all, take-append-le, take-append-drop}
use Rattle.std.proofs.lemmas.Slice.Eq.{bytes_eq-Decides}
use Rattle.rc_tree.specs.declared.attr.Kind.{Kind}
use Rattle.rc_tree.specs.declared.attr.Kind.TheVariants.{Dir, File}
use Rattle.rc_tree.specs.Name.{folded}
use Rattle.rc_tree.specs.Path.{key_cmp, key_of, last_name, parent_of}
use Rattle.rc_tree.specs.Spelled.{spelled, spelling_at, spelling_of}
use Rattle.rc_tree.specs.Tree.{Node, Tree, IsDirectory, IsTree}
use Rattle.rc_tree.proofs.Fronts.{above-more, by_last, last-more, spelled-key, spelled-more}
use Rattle.rc_tree.proofs.Keys.{key_cmp-total, name_cmp-total}
use Rattle.rc_mem.specs.Directories.{found_dir, is_dir, is_dir_kind}
use Rattle.rc_mem.specs.Nodes.{IsSpelledIn}
use Rattle.rc_sitetext.specs.Reading.{are_same, is_own_dir, is_within}

abbrev shown_at : Tree → List (List ℕ) → Option (List ℕ)
shown_at tree key = option_map (λ (node : Node). node.spelling) (get tree key)

-- a path with its last name apart
pub ends : (name : List ℕ) (names : List (List ℕ)) → name ∷ names ≡ take (length names) (name ∷ names) ++ last_name (name ∷ names) ∷ []
ends name [] = refl
ends name (next ∷ names) = ap (λ rest. name ∷ rest) (ends next names)

length-more : (names : List (List ℕ)) (name : List ℕ) → length (names ++ name ∷ []) ≡ length names + 1
length-more names name = length-append names (name ∷ [])

-- the front of a spelled path is spelled
front-spelled : (tree : Tree) (names : List (List ℕ)) (name : List ℕ) → IsSpelledIn tree (names ++ name ∷ []) → IsSpelledIn tree names
front-spelled tree names name h n some le =
    subst (λ path. shown_at tree (key_of path) ≡ Some (last_name path)) (take-append-le n names (name ∷ []) le) (h n some (omega (arith, length-more names name)))

-- and its last name is shown
last-shown : (tree : Tree) (names : List (List ℕ)) (name : List ℕ) → IsSpelledIn tree (names ++ name ∷ []) → shown_at tree (key_of (names ++ name ∷ [])) ≡ Some name
last-shown tree names name h =
    subst (λ path. shown_at tree (key_of path) ≡ Some (last_name path)) (take_all (length names + 1) (names ++ name ∷ []) (omega (arith, length-more names name)))
    (h (length names + 1) (omega arith) (omega (arith, length-more names name)))
    ∙ ap (λ last. Some last) (last-more names name)

-- and the other way round
pub more-spelled : (tree : Tree) (names : List (List ℕ)) (name : List ℕ) → IsSpelledIn tree names → shown_at tree (key_of (names ++ name ∷ [])) ≡ Some name → IsSpelledIn tree (names ++ name ∷ [])
more-spelled tree names name front last n some le = elim (cases_lt n (length names + 1)) [
  | inl lt ↦ subst (λ path. shown_at tree (key_of path) ≡ Some (last_name path)) (sym (take-append-le n names (name ∷ []) (omega arith))) (front n some (omega arith))
  | inr ge ↦ subst (λ path. shown_at tree (key_of path) ≡ Some (last_name path)) (sym (take_all n (names ++ name ∷ []) (omega (arith, length-more names name))))
      (last ∙ ap (λ x. Some x) (sym (last-more names name)))
]

spelling-from : (found : Option Node) (name : List ℕ) → option_map (λ (node : Node). node.spelling) found ≡ Some name → spelling_of found ≡ name
spelling-from None name e = cc
spelling-from (Some node) name e = cc

spelling-some : (found : Option Node) → found ≢ None → option_map (λ (node : Node). node.spelling) found ≡ Some (spelling_of found)
spelling-some None there = absurd (there refl)
spelling-some (Some node) there = refl

-- a path that is spelled so is the path of its key
pub own-is : (tree : Tree) (path : List (List ℕ)) → IsSpelledIn tree path → spelled tree (key_of path) ≡ path
own-is tree path h =
    by_last (λ names. IsSpelledIn tree names → spelled tree (key_of names) ≡ names) (λ _. refl)
    (λ names name so h.
    let key : key_of (names ++ name ∷ []) ≡ key_of names ++ folded name ∷ [] = map-append folded names (name ∷ []) in
    ap (spelled tree) key ∙ spelled-more tree (key_of names) (folded name)
    ∙ ap (λ front. front ++ spelling_at tree (key_of names ++ folded name ∷ []) ∷ []) (so (front-spelled tree names name h))
    ∙ ap (λ last. names ++ last ∷ []) (ap (spelling_at tree) (sym key) ∙ spelling-from (get tree (key_of (names ++ name ∷ []))) name (last-shown tree names name h)))
    path h

stands : (tree : Tree) (names : List (List ℕ)) → IsDirectory tree names → names ≢ [] → get tree names ≢ None
stands tree [] at some = absurd (some refl)
stands tree (first ∷ names) at some = at.1

some-names : (names : List (List ℕ)) (name : List ℕ) → names ++ name ∷ [] ≢ []
some-names [] name e = cc
some-names (first ∷ names) name e = cc

-- the path of an entry is spelled
pub spelled-own : (tree : Tree) (key : List (List ℕ)) → IsTree tree → (key ≢ [] → get tree key ≢ None) → IsSpelledIn tree (spelled tree key)
spelled-own tree key is there =
    by_last (λ names. (names ≢ [] → get tree names ≢ None) → IsSpelledIn tree (spelled tree names)) (λ _ n some le. absurd (omega arith))
    (λ names name so there.
    let here : get tree (names ++ name ∷ []) ≢ None = there (some-names names name) in
    let dir = above-more tree names name is here in
    let last : List ℕ = spelling_at tree (names ++ name ∷ []) in
    let key : key_of (spelled tree names ++ last ∷ []) ≡ names ++ name ∷ [] = ap key_of (sym (spelled-more tree names name)) ∙ spelled-key tree (names ++ name ∷ []) is here in
    subst (IsSpelledIn tree) (sym (spelled-more tree names name))
    (more-spelled tree (spelled tree names) last (so (stands tree names dir)) (ap (shown_at tree) key ∙ spelling-some (get tree (names ++ name ∷ [])) here)))
    key there

-- Trees that have the same at each front of a path spell it alike
pub keeps-spelled : (old new : Tree) (path : List (List ℕ)) → ((n : ℕ) → 0 < n → n ≤ length path → get old (key_of (take n path)) ≢ None → get new (key_of (take n path)) ≡ get old (key_of (take n path))) → IsSpelledIn old path → IsSpelledIn new path
keeps-spelled old new path same h n some le =
    ap (option_map (λ (node : Node). node.spelling))
    (same n some le (λ none. (let no : None ≡ Some (last_name (take n path)) = sym (ap (option_map (λ (node : Node). node.spelling)) none) ∙ h n some le in cc)))
    ∙ h n some le

-- Directories

dir_kind : (kind : Kind) → is_dir_kind kind ≡ true → kind ≡ Dir
dir_kind Dir e = refl
dir_kind File e = cc

dir_found : (found : Option Node) → found_dir found ≡ true → IfSome found (λ node. node.kind ≡ Dir) × (found ≢ None)
dir_found None e = cc
dir_found (Some node) e = (dir_kind node.kind e, λ none. cc)

found_there : (found : Option Node) → IfSome found (λ node. node.kind ≡ Dir) → found ≢ None → found_dir found ≡ true
found_there None dir there = absurd (there refl)
found_there (Some node) dir there = ap is_dir_kind dir

pub directory-from : (tree : Tree) (key : List (List ℕ)) → is_dir tree key ≡ true → IsDirectory tree key
directory-from tree [] e = tt
directory-from tree (n ∷ ns) e = dir_found (get tree (n ∷ ns)) e

directory-to : (tree : Tree) (key : List (List ℕ)) → IsDirectory tree key → is_dir tree key ≡ true
directory-to tree [] is = refl
directory-to tree (n ∷ ns) is = found_there (get tree (n ∷ ns)) is.0 is.1

same_spelling : (a b : List ℕ) → bytes_eq a b ≡ true → a ≡ b
same_spelling a b is = (bytes_eq-Decides a b).0 is

pub are_same-is : (a b : List (List ℕ)) → are_same a b ≡ true → a ≡ b
are_same-is [] [] e = refl
are_same-is [] (y ∷ b) e = cc
are_same-is (x ∷ a) [] e = cc
are_same-is (x ∷ a) (y ∷ b) e =
    let both = and_parts (bytes_eq x y) (are_same a b) e in
    ap (λ name. name ∷ a) (same_spelling x y both.0) ∙ ap (λ rest. y ∷ rest) (are_same-is a b both.1)

pub are_same-self : (a : List (List ℕ)) → are_same a a ≡ true
are_same-self [] = refl
are_same-self (x ∷ a) = and_from (bytes_eq x x) (are_same a a) ((bytes_eq-Decides x x).1 refl) (are_same-self a)

-- a directory of the tree, spelled as the tree spells it
pub record IsOwnDir (tree : Tree) (dir : List (List ℕ)) : Type 0 where
  pub stands : IsDirectory tree (key_of dir)
  pub spelled : IsSpelledIn tree dir

pub own_dir-from : (tree : Tree) (dir : List (List ℕ)) → IsTree tree → is_own_dir tree dir ≡ true → IsOwnDir tree dir
own_dir-from tree [] is e = record { stands = tt; spelled = λ n some le. absurd (omega arith) }
own_dir-from tree (name ∷ names) is e =
    let key : List (List ℕ) = key_of (name ∷ names) in
    let both = and_parts (is_dir tree key) (are_same (spelled tree key) (name ∷ names)) e in
    let at = directory-from tree key both.0 in
    record { stands = at; spelled = subst (IsSpelledIn tree) (are_same-is (spelled tree key) (name ∷ names) both.1) (spelled-own tree key is (λ some. at.1)) }

pub own_dir-to : (tree : Tree) (dir : List (List ℕ)) → IsOwnDir tree dir → is_own_dir tree dir ≡ true
own_dir-to tree [] own = refl
own_dir-to tree (name ∷ names) own =
    let key : List (List ℕ) = key_of (name ∷ names) in
    and_from (is_dir tree key) (are_same (spelled tree key) (name ∷ names)) (directory-to tree key own.stands)
    (ap (λ path. are_same path (name ∷ names)) (own-is tree (name ∷ names) own.spelled) ∙ are_same-self (name ∷ names))

-- the test, step by step
pub own_dir_root : (tree : Tree) (dir : List (List ℕ)) → length dir ≡ 0 → is_own_dir tree dir ≡ true
own_dir_root tree [] none = refl
own_dir_root tree (name ∷ names) none = absurd (omega (arith, none))

pub own_dir_none : (tree : Tree) (dir : List (List ℕ)) → length dir ≢ 0 → get tree (key_of dir) ≡ None → is_own_dir tree dir ≡ false
own_dir_none tree [] some none = absurd (some refl)
own_dir_none tree (name ∷ names) some none = ap (λ found. found_dir found && are_same (spelled tree (key_of (name ∷ names))) (name ∷ names)) none

pub own_dir_at : (tree : Tree) (dir path : List (List ℕ)) (node : Node) → length dir ≢ 0 → get tree (key_of dir) ≡ Some node → key_of path ≡ key_of dir → IsSpelledIn tree path → is_own_dir tree dir ≡ (is_dir_kind node.kind && are_same path dir)
own_dir_at tree [] path node some here key own = absurd (some refl)
own_dir_at tree (name ∷ names) path node some here key own =
    ap (λ found. found_dir found && are_same (spelled tree (key_of (name ∷ names))) (name ∷ names)) here
    ∙ ap (λ spelling. is_dir_kind node.kind && are_same spelling (name ∷ names)) (ap (spelled tree) (sym key) ∙ own-is tree path own)

-- The order of keys

-- what is longer comes behind
pub front_less : (a b : List (List ℕ)) → 0 < length b → key_cmp a (a ++ b) ≡ Less
front_less [] [] some = absurd (omega arith)
front_less [] (k ∷ b) some = refl
front_less (k ∷ a) b some = ap (λ r. ordering_then r (key_cmp a (a ++ b))) (tied_itself name_cmp-total k) ∙ front_less a b some

first : (a b : Bool) → T (a && b) → T a
first true b h = tt
first false b h = h

second : (a b : Bool) → T (a && b) → T b
second true b h = h
second false b h = absurd h

less : (r : Ordering) → T (is_lt r) → r ≡ Less
less Less h = refl
less Equal h = absurd h
less Greater h = absurd h

find_none : (k key : List (List ℕ)) (es : List (List (List ℕ) × Node)) → key_cmp k key ≡ Less → T (below_all key_cmp key es) → find key_cmp k es ≡ None
find_none k key [] lt below = refl
find_none k key (e ∷ es) lt below =
    let here : key_cmp k e.0 ≡ Less = key_cmp-total.trans k key e.0 lt (less (key_cmp key e.0) (first (is_lt (key_cmp key e.0)) (below_all key_cmp key es) below)) in
    rw here (find_none k key es lt (second (is_lt (key_cmp key e.0)) (below_all key_cmp key es) below))

-- a key before an entry is found in front of it
find_below : (k : List (List ℕ)) (xs : List (List (List ℕ) × Node)) (e : List (List ℕ) × Node) (es : List (List (List ℕ) × Node)) → T (is_sorted key_cmp (xs ++ e ∷ es)) → key_cmp k e.0 ≡ Less → find key_cmp k (xs ++ e ∷ es) ≡ find key_cmp k xs
find_below k [] e es sorted lt = rw lt (find_none k e.0 es lt (first (below_all key_cmp e.0 es) (is_sorted key_cmp es) sorted))
find_below k (x ∷ xs) e es sorted lt =
    ap (λ rest. cond (eq_by_cmp key_cmp k x.0) (Some x.1) rest) (find_below k xs e es (second (below_all key_cmp x.0 (xs ++ e ∷ es)) (is_sorted key_cmp (xs ++ e ∷ es)) sorted) lt)

pub get_below : (tree now : Tree) (e : List (List ℕ) × Node) (es : List (List (List ℕ) × Node)) (k : List (List ℕ)) → entries now ≡ entries tree ++ e ∷ es → key_cmp k e.0 ≡ Less → get tree k ≡ get now k
get_below tree now e es k is lt =
    let sorted : T (is_sorted key_cmp (entries tree ++ e ∷ es)) = subst (λ (l : List (List (List ℕ) × Node)). T (is_sorted key_cmp l)) is (entries_sorted now) in
    get-entries tree k ∙ sym (find_below k (entries tree) e es sorted lt) ∙ ap (find key_cmp k) (sym is) ∙ sym (get-entries now k)

-- a front of a directory is a front of what stands in it
front_key : (dir : List (List ℕ)) (name : List ℕ) (n : ℕ) → key_of (dir ++ name ∷ []) ≡ key_of (take n dir) ++ key_of (drop n dir ++ name ∷ [])
front_key dir name n =
    ap (λ front. key_of (front ++ name ∷ [])) (sym (take-append-drop n dir)) ∙ ap key_of (append_assoc (take n dir) (drop n dir) (name ∷ []))
    ∙ map-append folded (take n dir) (drop n dir ++ name ∷ [])

below_path : (dir : List (List ℕ)) (name : List ℕ) (n : ℕ) → key_cmp (key_of (take n dir)) (key_of (dir ++ name ∷ [])) ≡ Less
below_path dir name n =
    ap (key_cmp (key_of (take n dir))) (front_key dir name n)
    ∙ front_less (key_of (take n dir)) (key_of (drop n dir ++ name ∷ [])) (some (drop n dir))
  where
    some : (front : List (List ℕ)) → 0 < length (key_of (front ++ name ∷ []))
    some [] = omega arith
    some (x ∷ front) = omega arith

same_directory : (tree now : Tree) (key : List (List ℕ)) → get tree key ≡ get now key → IsDirectory now key → IsDirectory tree key
same_directory tree now [] same at = tt
same_directory tree now (n ∷ ns) same at = (subst (λ o. IfSome o (λ (node : Node). node.kind ≡ Dir)) (sym same) at.0, λ none. at.1 (sym same ∙ none))

own_dir_in : (tree now : Tree) (e : List (List ℕ) × Node) (es : List (List (List ℕ) × Node)) (dir : List (List ℕ)) (name : List ℕ) → entries now ≡ entries tree ++ e ∷ es → key_of (dir ++ name ∷ []) ≡ e.0 → IsTree now → get now e.0 ≢ None → IsSpelledIn now (dir ++ name ∷ []) → IsOwnDir tree dir
own_dir_in tree now e es dir name is key shape there own =
    let same : (n : ℕ) → get tree (key_of (take n dir)) ≡ get now (key_of (take n dir)) = λ n. get_below tree now e es (key_of (take n dir)) is (ap (key_cmp (key_of (take n dir))) (sym key) ∙ below_path dir name n) in
    let whole : get tree (key_of dir) ≡ get now (key_of dir) = subst (λ d. get tree (key_of d) ≡ get now (key_of d)) (take_all (length dir) dir (omega arith)) (same (length dir)) in
    let split : e.0 ≡ key_of dir ++ folded name ∷ [] = sym key ∙ map-append folded dir (name ∷ []) in
    record {
      stands = same_directory tree now (key_of dir) whole (above-more now (key_of dir) (folded name) shape (subst (λ k. get now k ≢ None) split there));
      spelled = keeps-spelled now tree dir (λ n some le _. same n) (front-spelled now dir name own);
    }

-- the directory of an entry stands before it
pub within_again : (tree now : Tree) (e : List (List ℕ) × Node) (es : List (List (List ℕ) × Node)) (path : List (List ℕ)) → entries now ≡ entries tree ++ e ∷ es → key_of path ≡ e.0 → IsTree now → get now e.0 ≢ None → IsSpelledIn now path → 0 < length path → is_within tree (parent_of path) ≡ true
within_again tree now e es [] is key shape there own some = absurd (omega arith)
within_again tree now e es (n ∷ ns) is key shape there own some =
    let dir : List (List ℕ) = take (length ns) (n ∷ ns) in
    let split = ends n ns in
    own_dir-to tree dir (own_dir_in tree now e es dir (last_name (n ∷ ns)) is (ap key_of (sym split) ∙ key) shape there (subst (IsSpelledIn now) split own))
