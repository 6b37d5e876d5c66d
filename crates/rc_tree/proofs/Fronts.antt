-- Keys from their last name up: the directory of a key, and how a tree spells its path.
use Rattle.std.proofs.Common.{◌≡◌, ◌≢◌, ℕ, List, [], ◌∷◌, ◌++◌, Option, Some, None, map, length, take, refl, sym, ap, subst, ◌∙◌, append_assoc}
use Rattle.std.proofs.lemmas.List.{map-append}
use Rattle.std.specs.Prelude.{IfSome}
use Rattle.std.specs.FinMap.{get}
use Rattle.rc_tree.specs.Name.{folded}
use Rattle.rc_tree.specs.Path.{key_of, last_name, parent_of}
use Rattle.rc_tree.specs.Spelled.{spelled, spelled_below, spelling_at, spelling_of}
use Rattle.rc_tree.specs.Tree.{Node, Tree, IsDirectory, IsTree, FitsAt}

-- what holds of no names, and of one name more wherever it holds, holds of all
pub by_last : {N : Type 0} (P : List N → Type 0) → P [] → ((names : List N) (name : N) → P names → P (names ++ name ∷ [])) → (names : List N) → P names
by_last P none more [] = none
by_last P none more (first ∷ names) = by_last (λ rest. P (first ∷ rest)) (more [] first none) (λ rest name. more (first ∷ rest) name) names

all_but_last : {N : Type 0} (first name : N) (names : List N) → take (length (names ++ name ∷ [])) (first ∷ (names ++ name ∷ [])) ≡ first ∷ names
all_but_last first name [] = refl
all_but_last first name (next ∷ names) = ap (λ rest. first ∷ rest) (all_but_last next name names)

-- the directory of an entry
pub parent-more : {N : Type 0} (names : List N) (name : N) → parent_of (names ++ name ∷ []) ≡ Some names
parent-more [] name = refl
parent-more (first ∷ names) name = ap (λ rest. Some rest) (all_but_last first name names)

pub last-more : (names : List (List ℕ)) (name : List ℕ) → last_name (names ++ name ∷ []) ≡ name
last-more [] name = refl
last-more (first ∷ []) name = refl
last-more (first ∷ next ∷ names) name = last-more (next ∷ names) name

-- a path is spelled name by name
below-more : (tree : Tree) (above names : List (List ℕ)) (name : List ℕ) → spelled_below tree above (names ++ name ∷ []) ≡ spelled_below tree above names ++ spelling_at tree (above ++ (names ++ name ∷ [])) ∷ []
below-more tree above [] name = refl
below-more tree above (first ∷ names) name =
    ap (λ rest. spelling_at tree (above ++ first ∷ []) ∷ rest) (below-more tree (above ++ first ∷ []) names name)
    ∙ ap (λ key. spelling_at tree (above ++ first ∷ []) ∷ (spelled_below tree (above ++ first ∷ []) names ++ spelling_at tree key ∷ [])) (append_assoc above (first ∷ []) (names ++ name ∷ []))

pub spelled-more : (tree : Tree) (names : List (List ℕ)) (name : List ℕ) → spelled tree (names ++ name ∷ []) ≡ spelled tree names ++ spelling_at tree (names ++ name ∷ []) ∷ []
spelled-more tree names name = below-more tree [] names name

-- Entries of a tree

fits : (tree : Tree) (names : List (List ℕ)) (name : List ℕ) (node : Node) → IsTree tree → get tree (names ++ name ∷ []) ≡ Some node → FitsAt tree names name node
fits tree names name node is here = subst (λ found. IfSome found (FitsAt tree names name)) here (is.1 names name)

some_of : (found : Option Node) → found ≢ None → (node : Node) × (found ≡ Some node)
some_of None there = absurd (there refl)
some_of (Some node) there = (node, refl)

stands : (tree : Tree) (names : List (List ℕ)) → IsDirectory tree names → names ≢ [] → get tree names ≢ None
stands tree [] at some = absurd (some refl)
stands tree (first ∷ names) at some = at.1

pub above-more : (tree : Tree) (names : List (List ℕ)) (name : List ℕ) → IsTree tree → get tree (names ++ name ∷ []) ≢ None → IsDirectory tree names
above-more tree names name is there =
    let at = some_of (get tree (names ++ name ∷ [])) there in
    (fits tree names name at.0 is at.1).within

pub directory_above : (tree : Tree) (key above : List (List ℕ)) → IsTree tree → get tree key ≢ None → parent_of key ≡ Some above → IsDirectory tree above
directory_above tree key above is there parent =
    by_last (λ key. get tree key ≢ None → parent_of key ≡ Some above → IsDirectory tree above)
    (λ _ none. absurd (no none))
    (λ names name _ there same. subst (IsDirectory tree) (once names above (sym (parent-more names name) ∙ same)) (above-more tree names name is there))
    key there parent
  where
    no : parent_of {N = List ℕ} [] ≡ Some above → ⊥
    no e = cc

    once : (x y : List (List ℕ)) → Some x ≡ Some y → x ≡ y
    once x y e = cc

-- the path of an entry, as it is spelled, has the entry's key
abbrev HasKey : Tree → List (List ℕ) → Type 0
HasKey tree names = (names ≢ [] → get tree names ≢ None) → key_of (spelled tree names) ≡ names

not_empty : (names : List (List ℕ)) (name : List ℕ) → names ++ name ∷ [] ≢ []
not_empty [] name e = cc
not_empty (first ∷ names) name e = cc

key-more : (tree : Tree) → IsTree tree → (names : List (List ℕ)) (name : List ℕ) → HasKey tree names → HasKey tree (names ++ name ∷ [])
key-more tree is names name so there =
    let here : get tree (names ++ name ∷ []) ≢ None = there (not_empty names name) in
    let at = some_of (get tree (names ++ name ∷ [])) here in
    let fit = fits tree names name at.0 is at.1 in
    ap key_of (spelled-more tree names name)
    ∙ map-append folded (spelled tree names) (spelling_at tree (names ++ name ∷ []) ∷ [])
    ∙ ap (λ front. front ++ folded (spelling_at tree (names ++ name ∷ [])) ∷ []) (so (stands tree names fit.within))
    ∙ ap (λ last. names ++ last ∷ []) (ap (λ found. folded (spelling_of found)) at.1 ∙ fit.spelled)

pub spelled-key : (tree : Tree) (key : List (List ℕ)) → IsTree tree → get tree key ≢ None → key_of (spelled tree key) ≡ key
spelled-key tree key is there = by_last (HasKey tree) (λ _. refl) (key-more tree is) key (λ _. there)

pub spelled-last : (tree : Tree) (key : List (List ℕ)) → IsTree tree → last_name (spelled tree key) ≡ spelling_at tree key
spelled-last tree key is =
    by_last (λ names. last_name (spelled tree names) ≡ spelling_at tree names)
    (sym (ap spelling_of is.0))
    (λ names name _. ap last_name (spelled-more tree names name) ∙ last-more (spelled tree names) (spelling_at tree (names ++ name ∷ [])))
    key
