-- The path of a new entry, in its directory as the tree spells that.
use Rattle.std.proofs.Common.{◌≡◌, ℕ, suc, ◌+◌, ◌<◌, ◌≤◌, List, [], ◌∷◌, ◌++◌, length, take, Some, None, refl, sym, ap, subst, ◌∙◌, arith, length-append}
use Rattle.std.specs.Prelude.{IfSome, IsSomeAnd}
use Rattle.std.specs.FinMap.{get}
use Rattle.std.proofs.lemmas.List.{length-map, map-append, take_at}
use Rattle.rc_tree.specs.Name.{folded, name_fault}
use Rattle.rc_tree.specs.Path.{key_of, last_name, parent_of}
use Rattle.rc_tree.specs.Tree.{Tree, IsDirectory}
use Rattle.rc_mem.specs.Nodes.{IsSpelledIn}
use Rattle.rc_mem.specs.Held.{IsPlaced}

-- a list with one more item
length-one : (xs : List (List ℕ)) (x : List ℕ) → length (xs ++ x ∷ []) ≡ length xs + 1
length-one xs x = length-append xs (x ∷ [])

last_name-one : (xs : List (List ℕ)) (x : List ℕ) → last_name (xs ++ x ∷ []) ≡ x
last_name-one [] x = refl
last_name-one (y ∷ []) x = refl
last_name-one (y ∷ z ∷ zs) x = last_name-one (z ∷ zs) x

suc_length : (a b : ℕ) → b ≡ a + 1 → suc a ≡ b
suc_length a b e = omega arith

parent_of-one : (xs : List (List ℕ)) (x : List ℕ) → parent_of (xs ++ x ∷ []) ≡ Some xs
parent_of-one [] x = refl
parent_of-one (y ∷ ys) x = ap Some (take_at (y ∷ ys) (x ∷ []) (length (ys ++ x ∷ [])) (suc_length (length ys) (length (ys ++ x ∷ [])) (length-one ys x)))

-- a path is its parent's and the last name
path-one : (path parent : List (List ℕ)) → parent_of path ≡ Some parent → path ≡ parent ++ last_name path ∷ []
path-one [] parent is = cc
path-one (n ∷ []) parent is = (let none : [] ≡ parent = cc in ap (λ xs. xs ++ n ∷ []) none)
path-one (n ∷ m ∷ ms) parent is = (let same : n ∷ take (length ms) (m ∷ ms) ≡ parent = cc in ap (λ l. n ∷ l) (path-one (m ∷ ms) (take (length ms) (m ∷ ms)) refl) ∙ ap (λ xs. xs ++ last_name (m ∷ ms) ∷ []) same)

pub length-parent : (path parent : List (List ℕ)) → parent_of path ≡ Some parent → length path ≡ length parent + 1
length-parent path parent is = ap length (path-one path parent is) ∙ length-one parent (last_name path)

key_of-one : (xs : List (List ℕ)) (x : List ℕ) → key_of (xs ++ x ∷ []) ≡ key_of xs ++ folded x ∷ []
key_of-one xs x = map-append folded xs (x ∷ [])

-- a directory at which nothing stands is the root
pub root-if : (tree : Tree) (dir : List (List ℕ)) → IsDirectory tree (key_of dir) → get tree (key_of dir) ≡ None → dir ≡ []
root-if tree [] is none = refl
root-if tree (n ∷ ns) is none = absurd (is.1 none)

pub same-length : (a b : List (List ℕ)) → key_of a ≡ key_of b → length a ≡ length b
same-length a b same = sym (length-map a folded) ∙ ap length same ∙ length-map b folded

-- the root is spelled
pub root-spelled : (tree : Tree) → IsSpelledIn tree []
root-spelled tree n some le = absurd (omega arith)

pub placed-under : (tree : Tree) (path parent dir own : List (List ℕ)) → parent_of path ≡ Some parent → own ≡ dir ++ last_name path ∷ [] → key_of dir ≡ key_of parent → IsDirectory tree (key_of parent) → IsSpelledIn tree dir
    → length path ≤ 64 → (0 < length path → name_fault (last_name path) ≡ None) → IsPlaced tree path own
placed-under tree path parent dir own above is same directory spelled depth named =
    let last : last_name own ≡ last_name path = ap last_name is ∙ last_name-one dir (last_name path) in
    let up : parent_of own ≡ Some dir = ap parent_of is ∙ parent_of-one dir (last_name path) in
    let long : length path ≡ length parent + 1 = length-parent path parent above in
    let own_long : length own ≡ length dir + 1 = ap length is ∙ length-one dir (last_name path) in
    record {
      key = ap key_of is ∙ key_of-one dir (last_name path) ∙ ap (λ (k : List (List ℕ)). k ++ folded (last_name path) ∷ []) same ∙ sym (ap key_of (path-one path parent above) ∙ key_of-one parent (last_name path));
      last = last;
      within = subst (λ o. IsSomeAnd o (λ p. IsDirectory tree (key_of p))) (sym up) (subst (IsDirectory tree) (sym same) directory);
      spelled = subst (λ o. IfSome o (IsSpelledIn tree)) (sym up) spelled;
      depth = omega (arith, same-length dir parent same);
      named = λ some. ap name_fault last ∙ named (omega arith);
    }
