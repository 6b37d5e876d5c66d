-- Keys between a directory's floor and what lies behind it.
use Rattle.std.proofs.Common.{◌≡◌, ◌≢◌, ℕ, false, List, [], ◌∷◌, ◌++◌, Option, None, Some, refl, sym, ap, subst, ◌∙◌, append_assoc, arith}
use Rattle.std.specs.FinMap.{get}
use Rattle.std.specs.Prelude.{IfSome}
use Rattle.std.specs.Ordering.{eq_by_cmp, is_lt, nat_cmp, ordering_reverse, ordering_then}
use Rattle.std.proofs.lemmas.Bool.{true≢false}
use Rattle.std.proofs.lemmas.Cmp.{ranked}
use Rattle.rc_tree.specs.declared.attr.Kind.TheVariants.{File, Dir}
use Rattle.rc_tree.specs.declared.entry.Entry.{Entry}
use Rattle.std.specs.Cmp.{tied_itself, nat_cmp_total}
use Rattle.std.specs.declared.cmp.Ordering.{Ordering}
use Rattle.std.specs.declared.cmp.Ordering.TheVariants.{Less, Equal, Greater}
use Rattle.rc_tree.specs.Name.{folded}
use Rattle.rc_tree.specs.Path.{key_cmp, name_cmp, floor_of}
use Rattle.rc_tree.specs.Tree.{IsDirectory, IsTree, Tree, Node}
use Rattle.rc_tree.proofs.Fronts.{above-more, by_last}
use Rattle.rc_tree.proofs.Keys.{key_itself, name_cmp-total, name_cmp-IsAntisymmetric}
use Rattle.rc_volume.specs.Site.{ComesAfter, IsEnd, IsNext}

-- Orders

pub then_first : (r s : Ordering) → is_lt (ordering_then r s) ≡ false → is_lt r ≡ false
then_first Less s e = cc
then_first Equal s e = refl
then_first Greater s e = refl

-- not below, and below: level
pub level_then : (r s t : Ordering) → is_lt (ordering_then r s) ≡ false → ordering_then r t ≡ Less → r ≡ Equal
level_then Less s t low high = cc
level_then Equal s t low high = refl
level_then Greater s t low high = cc

-- Keys with a common front

pub cmp-front : (dir xs ys : List (List ℕ)) → key_cmp (dir ++ xs) (dir ++ ys) ≡ key_cmp xs ys
cmp-front [] xs ys = refl
cmp-front (d ∷ dir) xs ys = ap (λ r. ordering_then r (key_cmp (dir ++ xs) (dir ++ ys))) (tied_itself name_cmp-total d) ∙ cmp-front dir xs ys

-- a key that lies between two with a common front has that front
pub record Between (dir : List (List ℕ)) (low high : List (List ℕ)) (key : List (List ℕ)) : Type 0 where
  pub rest : List (List ℕ)
  pub is : key ≡ dir ++ rest
  pub from : is_lt (key_cmp rest low) ≡ false
  pub below : key_cmp rest high ≡ Less

pub between : (dir : List (List ℕ)) (name : List ℕ) (low high : List (List ℕ)) (key : List (List ℕ)) → is_lt (key_cmp key (dir ++ name ∷ low)) ≡ false → key_cmp key (dir ++ high) ≡ Less → Between dir (name ∷ low) high key
between [] name low high key from below = record { rest = key; is = refl; from = from; below = below }
between (d ∷ dir) name low high [] from below = absurd (cc)
between (d ∷ dir) name low high (k ∷ key) from below =
    let same : name_cmp k d ≡ Equal = level_then (name_cmp k d) (key_cmp key (dir ++ name ∷ low)) (key_cmp key (dir ++ high)) from below in
    let low_rest : is_lt (key_cmp key (dir ++ name ∷ low)) ≡ false = ap (λ r. is_lt (ordering_then r (key_cmp key (dir ++ name ∷ low)))) (sym same) ∙ from in
    let high_rest : key_cmp key (dir ++ high) ≡ Less = ap (λ r. ordering_then r (key_cmp key (dir ++ high))) (sym same) ∙ below in
    let rest = between dir name low high key low_rest high_rest in
    record {
      rest = rest.rest;
      is = ap (λ (n : List ℕ). n ∷ key) (name_cmp-IsAntisymmetric k d same) ∙ ap (λ (ks : List (List ℕ)). d ∷ ks) rest.is;
      from = rest.from;
      below = rest.below;
    }

-- Names

-- a name is below itself with a character more
pub name-longer : (name : List ℕ) → name_cmp name (name ++ 0 ∷ []) ≡ Less
name-longer [] = refl
name-longer (c ∷ cs) = ap (λ r. ordering_then r (name_cmp cs (cs ++ 0 ∷ []))) (tied_itself nat_cmp_total c) ∙ name-longer cs

-- nothing lies between a name and itself with a character more
nil_least : (name : List ℕ) → name_cmp name [] ≡ Less → ⊥
nil_least [] e = cc
nil_least (c ∷ cs) e = cc

zero_least : (c : ℕ) (cs : List ℕ) → name_cmp (c ∷ cs) (0 ∷ []) ≡ Less → ⊥
zero_least c cs e = elim (nat_cmp c 0) as (λ r. nat_cmp c 0 ≡ r → ordering_then r (name_cmp cs []) ≡ Less → ⊥) [
  | Less ↦ λ is _. (let below = ranked c 0 Less (sym is) in omega arith)
  | Equal ↦ λ _ e. nil_least cs e
  | Greater ↦ λ _ e. cc
] refl e

name-none_between : (m n : List ℕ) → name_cmp m n ≡ Greater → name_cmp m (n ++ 0 ∷ []) ≡ Less → ⊥
name-none_between [] [] above below = cc
name-none_between [] (d ∷ ds) above below = cc
name-none_between (c ∷ cs) [] above below = zero_least c cs below
name-none_between (c ∷ cs) (d ∷ ds) above below =
    elim (nat_cmp c d) as (λ r. ordering_then r (name_cmp cs ds) ≡ Greater → ordering_then r (name_cmp cs (ds ++ 0 ∷ [])) ≡ Less → ⊥) [
      | Less ↦ λ e _. cc
      | Equal ↦ λ e f. name-none_between cs ds e f
      | Greater ↦ λ _ f. cc
    ] above below

-- a name from the floor on comes behind the one that the floor is of
passes : (last name : List ℕ) → is_lt (name_cmp name (last ++ 0 ∷ [])) ≡ false → name_cmp last name ≡ Less
passes [] [] from = cc
passes [] (c ∷ cs) from = refl
passes (d ∷ ds) [] from = cc
passes (d ∷ ds) (c ∷ cs) from =
    elim (nat_cmp c d) as (λ r. nat_cmp c d ≡ r → is_lt (ordering_then r (name_cmp cs (ds ++ 0 ∷ []))) ≡ false → ordering_then (nat_cmp d c) (name_cmp ds cs) ≡ Less) [
      | Less ↦ λ _ e. cc
      | Equal ↦ λ is e. ap (λ r. ordering_then r (name_cmp ds cs)) (nat_cmp_total.antisymm d c ∙ ap ordering_reverse is) ∙ passes ds cs e
      | Greater ↦ λ is _. ap (λ r. ordering_then r (name_cmp ds cs)) (nat_cmp_total.antisymm d c ∙ ap ordering_reverse is)
    ] refl from

pub comes_after : (after : Option (List ℕ)) (name : List ℕ) → is_lt (name_cmp name (floor_of after)) ≡ false → ComesAfter after name
comes_after None name from = tt
comes_after (Some last) name from = passes (folded last) name from

-- and one that comes behind it is from the floor on
reaches : (last name : List ℕ) → name_cmp last name ≡ Less → is_lt (name_cmp name (last ++ 0 ∷ [])) ≡ false
reaches last name later = by (name_cmp name (last ++ 0 ∷ [])) refl
  where
    by : (r : Ordering) → name_cmp name (last ++ 0 ∷ []) ≡ r → is_lt r ≡ false
    by Less e = absurd (name-none_between name last (name_cmp-total.antisymm name last ∙ ap ordering_reverse later) e)
    by Equal e = refl
    by Greater e = refl

pub from_floor : (after : Option (List ℕ)) (name : List ℕ) → ComesAfter after name → is_lt (name_cmp name (floor_of after)) ≡ false
from_floor None [] later = refl
from_floor None (c ∷ cs) later = refl
from_floor (Some last) name later = reaches (folded last) name later

-- Keys that stand

none_if : (found : Option Node) → (found ≢ None → ⊥) → found ≡ None
none_if None none = refl
none_if (Some node) none = absurd (none (λ e. cc))

pub directory_stands : (tree : Tree) (dir : List (List ℕ)) (name : List ℕ) (names : List (List ℕ)) → IsDirectory tree (dir ++ name ∷ names) → get tree (dir ++ name ∷ names) ≢ None
directory_stands tree [] name names is none = is.1 none
directory_stands tree (d ∷ dir) name names is none = is.1 none

directory_kind : (tree : Tree) (dir : List (List ℕ)) (name : List ℕ) (node : Node) → IsDirectory tree (dir ++ name ∷ []) → get tree (dir ++ name ∷ []) ≡ Some node → node.kind ≡ Dir
directory_kind tree [] name node is here = subst (λ (found : Option Node). IfSome found (λ node. node.kind ≡ Dir)) here is.0
directory_kind tree (d ∷ dir) name node is here = subst (λ (found : Option Node). IfSome found (λ node. node.kind ≡ Dir)) here is.0

pub directory_here : (tree : Tree) (dir : List (List ℕ)) (name : List ℕ) (node : Node) → get tree (dir ++ name ∷ []) ≡ Some node → node.kind ≡ Dir → IsDirectory tree (dir ++ name ∷ [])
directory_here tree [] name node here is = (subst (λ (found : Option Node). IfSome found (λ node. node.kind ≡ Dir)) (sym here) is, λ none. some_none (sym here ∙ none))
  where
    some_none : Some node ≡ None → ⊥
    some_none e = cc
directory_here tree (d ∷ dir) name node here is = (subst (λ (found : Option Node). IfSome found (λ node. node.kind ≡ Dir)) (sym here) is, λ none. some_none (sym here ∙ none))
  where
    some_none : Some node ≡ None → ⊥
    some_none e = cc

-- where an entry does not stand, nothing stands below it
pub none_below : (tree : Tree) → IsTree tree → (dir : List (List ℕ)) (name : List ℕ) (names : List (List ℕ)) → get tree (dir ++ name ∷ []) ≡ None → get tree (dir ++ name ∷ names) ≡ None
none_below tree is dir name names none =
    by_last (λ names. get tree (dir ++ name ∷ names) ≡ None) none
    (λ names last above.
    subst (λ (key : List (List ℕ)). get tree key ≡ None) (append_assoc dir (name ∷ names) (last ∷ []))
    (none_if (get tree ((dir ++ name ∷ names) ++ last ∷ [])) (λ there. directory_stands tree dir name names (above-more tree (dir ++ name ∷ names) last is there) above)))
    names

-- a file has no entries
pub file_ends : (tree : Tree) → IsTree tree → (dir : List (List ℕ)) (name : List ℕ) (node : Node) → get tree (dir ++ name ∷ []) ≡ Some node → node.kind ≡ File → IsEnd tree (dir ++ name ∷ []) None
file_ends tree is dir name node here file other later =
    none_if (get tree ((dir ++ name ∷ []) ++ other ∷ []))
    (λ there. files_apart (sym file ∙ directory_kind tree dir name node (above-more tree (dir ++ name ∷ []) other is there) here))
  where
    files_apart : File ≡ Dir → ⊥
    files_apart e = cc

-- What stands between the floors of two places

-- between the floor of a directory behind a name and what lies below the next entry: that entry alone
pub one_next : (tree : Tree) → IsTree tree → (dir : List (List ℕ)) (after : Option (List ℕ)) (entry : Entry) → IsNext tree dir after entry → (key : List (List ℕ)) → is_lt (key_cmp key (dir ++ floor_of after ∷ [])) ≡ false → key_cmp key (dir ++ folded entry.name ∷ [] ∷ []) ≡ Less → eq_by_cmp key_cmp key (dir ++ folded entry.name ∷ []) ≡ false → get tree key ≡ None
one_next tree is dir after entry next key from below apart =
    let rest = between dir (floor_of after) [] (folded entry.name ∷ [] ∷ []) key from below in
    subst (λ (k : List (List ℕ)). get tree k ≡ None) (sym rest.is)
    (by rest.rest rest.from rest.below (ap (λ (k : List (List ℕ)). eq_by_cmp key_cmp k (dir ++ folded entry.name ∷ [])) (sym rest.is) ∙ apart))
  where
    name : List ℕ
    name = folded entry.name

    above_nil : (names : List (List ℕ)) → key_cmp names ([] ∷ []) ≡ Less → names ≡ []
    above_nil [] e = refl
    above_nil ([] ∷ []) e = cc
    above_nil ([] ∷ x ∷ xs) e = cc
    above_nil ((c ∷ cs) ∷ xs) e = cc

    by : (rest : List (List ℕ)) → is_lt (key_cmp rest (floor_of after ∷ [])) ≡ false → key_cmp rest (folded entry.name ∷ [] ∷ []) ≡ Less → eq_by_cmp key_cmp (dir ++ rest) (dir ++ folded entry.name ∷ []) ≡ false → get tree (dir ++ rest) ≡ None
    by [] from below apart = cc
    by (m ∷ ms) from below apart =
        elim (name_cmp m (folded entry.name)) as (λ r. name_cmp m (folded entry.name) ≡ r → ordering_then r (key_cmp ms ([] ∷ [])) ≡ Less → get tree (dir ++ m ∷ ms) ≡ None) [
          | Less ↦ λ less _. none_below tree is dir m ms (next.least m (comes_after after m (then_first (name_cmp m (floor_of after)) (key_cmp ms []) from)) less)
          | Equal ↦ λ same low. absurd (tied (name_cmp-IsAntisymmetric m (folded entry.name) same) (above_nil ms low))
          | Greater ↦ λ _ low. cc
        ] refl below
      where
        tied : m ≡ folded entry.name → ms ≡ [] → ⊥
        tied same none =
            true≢false (sym (key_itself (dir ++ folded entry.name ∷ []))
            ∙ ap (λ (k : List (List ℕ)). eq_by_cmp key_cmp (dir ++ k) (dir ++ folded entry.name ∷ [])) (sym (ap (λ (n : List ℕ). n ∷ ms) same ∙ ap (λ (ns : List (List ℕ)). folded entry.name ∷ ns) none))
            ∙ apart)

-- between the floor of a directory that has ended and that behind it in the one above: nothing
pub none_left : (tree : Tree) → IsTree tree → (dir : List (List ℕ)) (name : List ℕ) (after : Option (List ℕ)) → IsEnd tree (dir ++ name ∷ []) after → (key : List (List ℕ)) → is_lt (key_cmp key (dir ++ name ∷ floor_of after ∷ [])) ≡ false → key_cmp key (dir ++ (name ++ 0 ∷ []) ∷ []) ≡ Less → get tree key ≡ None
none_left tree is dir name after ends key from below =
    let rest = between dir name (floor_of after ∷ []) ((name ++ 0 ∷ []) ∷ []) key from below in
    subst (λ (k : List (List ℕ)). get tree k ≡ None) (sym rest.is) (by rest.rest rest.from rest.below)
  where
    less_first : (r : Ordering) (ms : List (List ℕ)) → ordering_then r (key_cmp ms []) ≡ Less → r ≡ Less
    less_first Less ms e = refl
    less_first Equal [] e = cc
    less_first Equal (m ∷ ms) e = cc
    less_first Greater ms e = cc

    inside : (m : List ℕ) (ms : List (List ℕ)) → m ≡ name → is_lt (key_cmp ms (floor_of after ∷ [])) ≡ false → get tree (dir ++ m ∷ ms) ≡ None
    inside m [] same from = cc
    inside m (x ∷ xs) same from =
        subst (λ (n : List ℕ). get tree (dir ++ n ∷ x ∷ xs) ≡ None) (sym same)
        (subst (λ (k : List (List ℕ)). get tree k ≡ None) (append_assoc dir (name ∷ []) (x ∷ xs))
        (none_below tree is (dir ++ name ∷ []) x xs (ends x (comes_after after x (then_first (name_cmp x (floor_of after)) (key_cmp xs []) from)))))

    by : (rest : List (List ℕ)) → is_lt (key_cmp rest (name ∷ floor_of after ∷ [])) ≡ false → key_cmp rest ((name ++ 0 ∷ []) ∷ []) ≡ Less → get tree (dir ++ rest) ≡ None
    by [] from below = cc
    by (m ∷ ms) from below =
        elim (name_cmp m name) as (λ r. name_cmp m name ≡ r → is_lt (ordering_then r (key_cmp ms (floor_of after ∷ []))) ≡ false → get tree (dir ++ m ∷ ms) ≡ None) [
          | Less ↦ λ _ low. cc
          | Equal ↦ λ same low. inside m ms (name_cmp-IsAntisymmetric m name same) low
          | Greater ↦ λ above _. absurd (name-none_between m name above (less_first (name_cmp m (name ++ 0 ∷ [])) ms below))
        ] refl from

-- from the floor of a root that has ended: nothing
pub none_ahead : (tree : Tree) → IsTree tree → (after : Option (List ℕ)) → IsEnd tree [] after → (key : List (List ℕ)) → is_lt (key_cmp key (floor_of after ∷ [])) ≡ false → get tree key ≡ None
none_ahead tree is after ends [] from = cc
none_ahead tree is after ends (m ∷ ms) from =
    none_below tree is [] m ms (ends m (comes_after after m (then_first (name_cmp m (floor_of after)) (key_cmp ms []) from)))

-- Floors rise

pub below_entry : (dir : List (List ℕ)) (name : List ℕ) → key_cmp (dir ++ name ∷ []) (dir ++ name ∷ [] ∷ []) ≡ Less
below_entry dir name = cmp-front dir (name ∷ []) (name ∷ [] ∷ []) ∙ ap (λ r. ordering_then r Less) (tied_itself name_cmp-total name)

-- an entry behind a name is from the floor on
pub entry_from_floor : (dir : List (List ℕ)) (after : Option (List ℕ)) (name : List ℕ) → ComesAfter after name → is_lt (key_cmp (dir ++ name ∷ []) (dir ++ floor_of after ∷ [])) ≡ false
entry_from_floor dir after name later =
    ap is_lt (cmp-front dir (name ∷ []) (floor_of after ∷ [])) ∙ by (name_cmp name (floor_of after)) (from_floor after name later)
  where
    by : (r : Ordering) → is_lt r ≡ false → is_lt (ordering_then r Equal) ≡ false
    by Less e = e
    by Equal e = refl
    by Greater e = refl

pub left_rises : (dir : List (List ℕ)) (name low : List ℕ) → key_cmp (dir ++ name ∷ low ∷ []) (dir ++ (name ++ 0 ∷ []) ∷ []) ≡ Less
left_rises dir name low = cmp-front dir (name ∷ low ∷ []) ((name ++ 0 ∷ []) ∷ []) ∙ ap (λ r. ordering_then r (key_cmp (low ∷ []) [])) (name-longer name)
