-- What a walk has found at a place: all that the tree has below the least key ahead, in the order of keys.
use Rattle.std.proofs.Common.{◌≡◌, ℕ, ◌≤◌, Bool, true, false, cond, ◌&&◌, List, [], ◌∷◌, ◌++◌, Option, Some, None, map, length, refl, sym, ap, subst, ◌∙◌, append_assoc, arith, length-append}
use Rattle.std.proofs.lemmas.Bool.{true≢false}
use Rattle.std.proofs.lemmas.List.{map-append}
use Rattle.std.specs.Prelude.{T, option_map}
use Rattle.std.specs.FinMap.{get}
use Rattle.std.specs.FinMap.Entries.{is_sorted, below_all}
use Rattle.std.specs.Ordering.{eq_by_cmp, is_eq, is_lt, ordering_reverse}
use Rattle.std.specs.declared.cmp.Ordering.{Ordering}
use Rattle.std.specs.declared.cmp.Ordering.TheVariants.{Less, Equal, Greater}
use Rattle.rc_tree.specs.declared.attr.Kind.{Kind}
use Rattle.rc_tree.specs.declared.attr.Kind.TheVariants.{File, Dir}
use Rattle.rc_tree.specs.declared.entry.Entry.{Entry}
use Rattle.rc_tree.specs.Name.{folded}
use Rattle.rc_tree.specs.Path.{key_cmp, key_of, floor_of, parent_of}
use Rattle.rc_tree.specs.Spelled.{spelled, spelling_at, spelling_of}
use Rattle.rc_tree.specs.Tree.{IsDirectory, IsTree, Tree, Node}
use Rattle.rc_tree.proofs.Fronts.{above-more, parent-more, spelled-more}
use Rattle.rc_tree.proofs.Keys.{key_cmp-total, key_cmp-IsAntisymmetric, same_key, key_itself}
use Rattle.rc_volume.specs.Site.{ComesAfter, IsEnd, IsNext, entry_of}
use Rattle.rc_plan.specs.declared.entries.Found.{Found}
use Rattle.rc_plan.specs.declared.entries.Place.{Place}
use Rattle.rc_plan.specs.Found.{AreAllOf, are_rising, found_at, found_of, placed, seen_at}
use Rattle.rc_plan.specs.declared.entries.Step.{Step}
use Rattle.rc_plan.specs.declared.entries.Step.TheVariants as step
use Rattle.rc_plan.specs.Walk.{Enters, Leaves, Steps, floor, next_place}
use Rattle.rc_plan.proofs.Floors.{below_entry, directory_here, directory_stands, entry_from_floor, file_ends, left_rises, none_ahead, none_left, one_next}

-- Lists in the order of keys

first_part : (a b : Bool) → T (a && b) → T a
first_part true b p = tt
first_part false b p = p

second_part : (a b : Bool) → T (a && b) → T b
second_part true b p = p
second_part false b p = absurd p

both : (a b : Bool) → T a → T b → T (a && b)
both true b p q = q
both false b p q = p

is_less : (r : Ordering) → r ≡ Less → T (is_lt r)
is_less r e = subst (λ (o : Ordering). T (is_lt o)) (sym e) tt

holds : (b : Bool) → b ≡ true → T b
holds b e = subst T (sym e) tt

is_true : (b : Bool) → T b → b ≡ true
is_true true p = refl
is_true false p = absurd p

-- all keys lie below a key
abbrev pub AreBelow : List Found → List (List ℕ) → Type 0
AreBelow [] key = Unit {0}
AreBelow (found ∷ all) key = (key_cmp (key_of found.path) key ≡ Less) × AreBelow all key

below_trans : (all : List Found) (low high : List (List ℕ)) → AreBelow all low → key_cmp low high ≡ Less → AreBelow all high
below_trans [] low high below less = tt
below_trans (found ∷ all) low high below less = (key_cmp-total.trans (key_of found.path) low high below.0 less, below_trans all low high below.1 less)

below_push : (all : List Found) (found : Found) (key : List (List ℕ)) → AreBelow all key → key_cmp (key_of found.path) key ≡ Less → AreBelow (all ++ found ∷ []) key
below_push [] found key below less = (less, tt)
below_push (first ∷ all) found key below less = (below.0, below_push all found key below.1 less)

above_push : (key : List (List ℕ)) (all : List Found) (found : Found) → T (below_all key_cmp key (map placed all)) → key_cmp key (key_of found.path) ≡ Less → T (below_all key_cmp key (map placed (all ++ found ∷ [])))
above_push key [] found above less = both _ _ (is_less _ less) tt
above_push key (first ∷ all) found above less = both _ _ (first_part _ _ above) (above_push key all found (second_part _ _ above) less)

sorted_push : (all : List Found) (found : Found) → T (is_sorted key_cmp (map placed all)) → AreBelow all (key_of found.path) → T (is_sorted key_cmp (map placed (all ++ found ∷ [])))
sorted_push [] found sorted below = tt
sorted_push (first ∷ all) found sorted below =
    both _ _
    (above_push (key_of first.path) all found (first_part _ _ sorted) below.0)
    (sorted_push all found (second_part (below_all key_cmp (key_of first.path) (map placed all)) _ sorted) below.1)

swapped : (a b : Bool) (x y z : Option Found) → (a ≡ true → b ≡ true → ⊥) → cond a x (cond b y z) ≡ cond b y (cond a x z)
swapped true true x y z apart = absurd (apart refl refl)
swapped true false x y z apart = refl
swapped false b x y z apart = refl

found_push : (all : List Found) (found : Found) (key : List (List ℕ)) → AreBelow all (key_of found.path) → found_at (all ++ found ∷ []) key ≡ cond (eq_by_cmp key_cmp key (key_of found.path)) (Some found) (found_at all key)
found_push [] found key below = refl
found_push (first ∷ all) found key below =
    ap (λ (rest : Option Found). cond (eq_by_cmp key_cmp key (key_of first.path)) (Some first) rest) (found_push all found key below.1)
    ∙ swapped (eq_by_cmp key_cmp key (key_of first.path)) (eq_by_cmp key_cmp key (key_of found.path)) (Some first) (Some found) (found_at all key)
    (λ a b. apart (sym (same_key key (key_of first.path) a) ∙ same_key key (key_of found.path) b))
  where
    apart : key_of first.path ≡ key_of found.path → ⊥
    apart same = true≢false (sym (key_itself (key_of found.path)) ∙ ap (λ (k : List (List ℕ)). eq_by_cmp key_cmp k (key_of found.path)) (sym same) ∙ ap is_eq below.0)

-- Untold

-- what was found lies below the floor, in order
pub record Rises (low : List (List ℕ)) (all : List Found) : Type 0 where
  pub sorted : T (is_sorted key_cmp (map placed all))
  pub below : AreBelow all low
  pub root : found_at all [] ≡ None

pub Rises-start : (low : List (List ℕ)) (all : List Found) → all ≡ [] → Rises low all
Rises-start low all none = subst (Rises low) (sym none) (record { sorted = tt; below = tt; root = refl })

pub Rises-rising : (low : List (List ℕ)) (all : List Found) → Rises low all → are_rising all ≡ true
Rises-rising low all rises = is_true _ rises.sorted

not_below : (low high : List (List ℕ)) → is_lt (key_cmp high low) ≡ false → (all : List Found) → AreBelow all low → AreBelow all high
not_below low high from all below =
    elim (key_cmp high low) as (λ r. key_cmp high low ≡ r → is_lt r ≡ false → AreBelow all high) [
      | Less ↦ λ _ not. cc
      | Equal ↦ λ same _. subst (AreBelow all) (sym (key_cmp-IsAntisymmetric high low same)) below
      | Greater ↦ λ above _. below_trans all low high below (key_cmp-total.antisymm low high ∙ ap ordering_reverse above)
    ] refl from

-- one more, at a key from the floor on
pub Rises-push : (low high : List (List ℕ)) (all : List Found) (found : Found) → Rises low all → eq_by_cmp key_cmp [] (key_of found.path) ≡ false → is_lt (key_cmp (key_of found.path) low) ≡ false → key_cmp (key_of found.path) high ≡ Less → Rises high (all ++ found ∷ [])
Rises-push low high all found rises apart from less =
    let here = not_below low (key_of found.path) from all rises.below in
    record {
      sorted = sorted_push all found rises.sorted here;
      below = below_push all found high (below_trans all (key_of found.path) high here less) less;
      root =
          found_push all found [] here
          ∙ ap (λ (b : Bool). cond b (Some found) (found_at all [])) apart
          ∙ rises.root;
    }

pub Rises-on : (low high : List (List ℕ)) (all : List Found) → Rises low all → key_cmp low high ≡ Less → Rises high all
Rises-on low high all rises less = record { sorted = rises.sorted; below = below_trans all low high rises.below less; root = rises.root }

-- an entry of a directory is not the root
not_root : (dir : List (List ℕ)) (name : List ℕ) → eq_by_cmp key_cmp [] (key_of (dir ++ name ∷ [])) ≡ false
not_root [] name = refl
not_root (first ∷ dir) name = refl

-- Told

-- what was found is what the tree has below the floor
pub record Reads (tree : Tree) (low : List (List ℕ)) (all : List Found) : Type 0 where
  pub each : (key : List (List ℕ)) → found_at all key ≡ cond (is_lt (key_cmp key low)) (seen_at tree key) None

unseen : (tree : Tree) (key : List (List ℕ)) → get tree key ≡ None → seen_at tree key ≡ None
unseen tree key none = ap (λ (found : Option Node). option_map (λ node. found_of (spelled tree key) (entry_of node)) found) none

pub Reads-start : (tree : Tree) (all : List Found) → IsTree tree → all ≡ [] → Reads tree ([] ∷ []) all
Reads-start tree all is none = subst (Reads tree ([] ∷ [])) (sym none) (record { each = at })
  where
    at : (key : List (List ℕ)) → None ≡ cond (is_lt (key_cmp key ([] ∷ []))) (seen_at tree key) None
    at [] = sym (unseen tree [] is.0)
    at ([] ∷ []) = refl
    at ([] ∷ next ∷ names) = refl
    at ((c ∷ cs) ∷ names) = refl

-- nothing stands between two floors
pub Reads-on : (tree : Tree) (low high : List (List ℕ)) (all : List Found) → Reads tree low all → key_cmp low high ≡ Less → ((key : List (List ℕ)) → is_lt (key_cmp key low) ≡ false → key_cmp key high ≡ Less → get tree key ≡ None) → Reads tree high all
Reads-on tree low high all reads less gap = record { each = λ key. reads.each key ∙ at key }
  where
    later : (key : List (List ℕ)) (r : Ordering) → is_lt (key_cmp key low) ≡ false → key_cmp key high ≡ r → None ≡ cond (is_lt r) (seen_at tree key) None
    later key Less from below = sym (unseen tree key (gap key from below))
    later key Equal from below = refl
    later key Greater from below = refl

    at : (key : List (List ℕ)) → cond (is_lt (key_cmp key low)) (seen_at tree key) None ≡ cond (is_lt (key_cmp key high)) (seen_at tree key) None
    at key =
        elim (key_cmp key low) as (λ r. key_cmp key low ≡ r → cond (is_lt r) (seen_at tree key) None ≡ cond (is_lt (key_cmp key high)) (seen_at tree key) None) [
          | Less ↦ λ e. ap (λ r. cond (is_lt r) (seen_at tree key) None) (sym (key_cmp-total.trans key low high e less))
          | Equal ↦ λ e. later key (key_cmp key high) (ap is_lt e) refl
          | Greater ↦ λ e. later key (key_cmp key high) (ap is_lt e) refl
        ] refl

-- one entry stands between them
pub Reads-push : (tree : Tree) (low high : List (List ℕ)) (all : List Found) (found : Found) → Reads tree low all → AreBelow all (key_of found.path) → seen_at tree (key_of found.path) ≡ Some found → is_lt (key_cmp (key_of found.path) low) ≡ false → key_cmp (key_of found.path) high ≡ Less → key_cmp low high ≡ Less → ((key : List (List ℕ)) → is_lt (key_cmp key low) ≡ false → key_cmp key high ≡ Less → eq_by_cmp key_cmp key (key_of found.path) ≡ false → get tree key ≡ None) → Reads tree high (all ++ found ∷ [])
Reads-push tree low high all found reads below stands from less rises gap = record { each = λ key. found_push all found key below ∙ at key }
  where
    here : (key : List (List ℕ)) → key ≡ key_of found.path → Some found ≡ cond (is_lt (key_cmp key high)) (seen_at tree key) None
    here key same =
        sym (ap (λ (k : List (List ℕ)). cond (is_lt (key_cmp k high)) (seen_at tree k) None) same
        ∙ ap (λ r. cond (is_lt r) (seen_at tree (key_of found.path)) None) less
        ∙ stands)

    later : (key : List (List ℕ)) (r : Ordering) → eq_by_cmp key_cmp key (key_of found.path) ≡ false → is_lt (key_cmp key low) ≡ false → key_cmp key high ≡ r → None ≡ cond (is_lt r) (seen_at tree key) None
    later key Less apart from below = sym (unseen tree key (gap key from below apart))
    later key Equal apart from below = refl
    later key Greater apart from below = refl

    elsewhere : (key : List (List ℕ)) → eq_by_cmp key_cmp key (key_of found.path) ≡ false → cond (is_lt (key_cmp key low)) (seen_at tree key) None ≡ cond (is_lt (key_cmp key high)) (seen_at tree key) None
    elsewhere key apart =
        elim (key_cmp key low) as (λ r. key_cmp key low ≡ r → cond (is_lt r) (seen_at tree key) None ≡ cond (is_lt (key_cmp key high)) (seen_at tree key) None) [
          | Less ↦ λ e. ap (λ r. cond (is_lt r) (seen_at tree key) None) (sym (key_cmp-total.trans key low high e rises))
          | Equal ↦ λ e. later key (key_cmp key high) apart (ap is_lt e) refl
          | Greater ↦ λ e. later key (key_cmp key high) apart (ap is_lt e) refl
        ] refl

    at : (key : List (List ℕ)) → cond (eq_by_cmp key_cmp key (key_of found.path)) (Some found) (found_at all key) ≡ cond (is_lt (key_cmp key high)) (seen_at tree key) None
    at key =
        elim (eq_by_cmp key_cmp key (key_of found.path)) as (λ b. eq_by_cmp key_cmp key (key_of found.path) ≡ b → cond b (Some found) (found_at all key) ≡ cond (is_lt (key_cmp key high)) (seen_at tree key) None) [
          | true ↦ λ e. here key (same_key key (key_of found.path) e)
          | false ↦ λ e. reads.each key ∙ elsewhere key e
        ] refl

-- Steps

-- where a walk stands, and what it has found so far
pub record Walks (tells : Bool) (tree : Tree) (place : Place) (all : List Found) : Type 0 where
  pub depth : length place.dir ≤ 64
  pub rises : Rises (floor place) all
  pub directory : tells ≡ true → IsDirectory tree (key_of place.dir)
  pub spells : tells ≡ true → place.dir ≡ spelled tree (key_of place.dir)
  pub reads : tells ≡ true → IsTree tree → Reads tree (floor place) all

pub Walks-start : (tells : Bool) (tree : Tree) (place : Place) (all : List Found) → place.dir ≡ [] → place.after ≡ None → all ≡ [] → Walks tells tree place all
Walks-start tells tree place all root first none =
    subst (λ (p : Place). Walks tells tree p all) (λ i. record { dir = sym root i; after = sym first i })
    (record {
      depth = omega arith;
      rises = Rises-start ([] ∷ []) all none;
      directory = λ _. tt;
      spells = λ _. refl;
      reads = λ _ is. Reads-start tree all is none;
    })

-- the path of an entry
key-more : (dir : List (List ℕ)) (name : List ℕ) → key_of (dir ++ name ∷ []) ≡ key_of dir ++ folded name ∷ []
key-more dir name = map-append folded dir (name ∷ [])

append_one : (dir : List (List ℕ)) (name other : List ℕ) → (dir ++ name ∷ []) ++ other ∷ [] ≡ dir ++ name ∷ other ∷ []
append_one dir name other = append_assoc dir (name ∷ []) (other ∷ [])

spells-more : (tree : Tree) (dir : List (List ℕ)) (entry : Entry) (node : Node) → dir ≡ spelled tree (key_of dir) → get tree (key_of dir ++ folded entry.name ∷ []) ≡ Some node → entry ≡ entry_of node → dir ++ entry.name ∷ [] ≡ spelled tree (key_of dir ++ folded entry.name ∷ [])
spells-more tree dir entry node spells here shown =
    ap (λ (front : List (List ℕ)). front ++ entry.name ∷ []) spells
    ∙ ap (λ (last : List ℕ). spelled tree (key_of dir) ++ last ∷ []) (ap (λ (e : Entry). e.name) shown ∙ sym (ap spelling_of here))
    ∙ sym (spelled-more tree (key_of dir) (folded entry.name))

-- what is kept of an entry is what the tree has there
sees : (tree : Tree) (dir : List (List ℕ)) (entry : Entry) (node : Node) → dir ≡ spelled tree (key_of dir) → get tree (key_of dir ++ folded entry.name ∷ []) ≡ Some node → entry ≡ entry_of node → seen_at tree (key_of (dir ++ entry.name ∷ [])) ≡ Some (found_of (dir ++ entry.name ∷ []) entry)
sees tree dir entry node spells here shown =
    ap (seen_at tree) (key-more dir entry.name)
    ∙ ap (λ (found : Option Node). option_map (λ node. found_of (spelled tree (key_of dir ++ folded entry.name ∷ [])) (entry_of node)) found) here
    ∙ ap (λ (path : List (List ℕ)). Some (found_of path (entry_of node))) (sym (spells-more tree dir entry node spells here shown))
    ∙ ap (λ (e : Entry). Some (found_of (dir ++ entry.name ∷ []) e)) (sym shown)

-- the least key below an entry, and that behind it
abbrev inside : List (List ℕ) → List ℕ → List (List ℕ)
inside dir name = key_of dir ++ folded name ∷ [] ∷ []

from_less : (low key high : List (List ℕ)) → is_lt (key_cmp key low) ≡ false → key_cmp key high ≡ Less → key_cmp low high ≡ Less
from_less low key high from less =
    elim (key_cmp key low) as (λ r. key_cmp key low ≡ r → is_lt r ≡ false → key_cmp low high ≡ Less) [
      | Less ↦ λ _ not. cc
      | Equal ↦ λ same _. ap (λ (k : List (List ℕ)). key_cmp k high) (sym (key_cmp-IsAntisymmetric key low same)) ∙ less
      | Greater ↦ λ above _. key_cmp-total.trans low key high (key_cmp-total.antisymm low key ∙ ap ordering_reverse above) less
    ] refl from

-- an entry and what was found before it, up to the least key below it
record Reaches (tells : Bool) (tree : Tree) (high : List (List ℕ)) (all : List Found) : Type 0 where
  rises : Rises high all
  reads : tells ≡ true → IsTree tree → Reads tree high all

reaches-entry : (tells : Bool) (tree : Tree) (place : Place) (all : List Found) (entry : Entry) → Walks tells tree place all → ComesAfter place.after (folded entry.name) → (tells ≡ true → IsNext tree (key_of place.dir) place.after entry) → Reaches tells tree (inside place.dir entry.name) (all ++ found_of (place.dir ++ entry.name ∷ []) entry ∷ [])
reaches-entry tells tree place all entry walks later least =
    let dir : List (List ℕ) = key_of place.dir in
    let name : List ℕ = folded entry.name in
    let found : Found = found_of (place.dir ++ entry.name ∷ []) entry in
    let from : is_lt (key_cmp (key_of (place.dir ++ entry.name ∷ [])) (floor place)) ≡ false = ap (λ (k : List (List ℕ)). is_lt (key_cmp k (floor place))) (key-more place.dir entry.name) ∙ entry_from_floor dir place.after name later in
    let below : key_cmp (key_of (place.dir ++ entry.name ∷ [])) (inside place.dir entry.name) ≡ Less = ap (λ (k : List (List ℕ)). key_cmp k (inside place.dir entry.name)) (key-more place.dir entry.name) ∙ below_entry dir name in
    record {
      rises = Rises-push (floor place) (inside place.dir entry.name) all found walks.rises (not_root place.dir entry.name) from below;
      reads = λ told is.
          let next = least told in
          Reads-push tree (floor place) (inside place.dir entry.name) all found
          (walks.reads told is)
          (not_below (floor place) (key_of found.path) from all walks.rises.below)
          (sees tree place.dir entry next.node (walks.spells told) next.stands next.shown)
          from below
          (from_less (floor place) (key_of found.path) (inside place.dir entry.name) from below)
          (λ key low high apart. one_next tree is dir place.after entry next key low high (ap (eq_by_cmp key_cmp key) (sym (key-more place.dir entry.name)) ∙ apart));
    }

pub Walks-enter : (tells : Bool) (tree : Tree) (place : Place) (all : List Found) (found : Found) (next : Place) → Walks tells tree place all → Enters tells tree place found next → Walks tells tree next (all ++ found ∷ [])
Walks-enter tells tree place all found next walks enters =
    subst (λ (p : Place). Walks tells tree p (all ++ found ∷ [])) (sym enters.goes_on)
    (subst (λ (f : Found). Walks tells tree (next_place entry.kind place.dir entry.name) (all ++ f ∷ [])) (sym enters.is_found)
    (by entry.kind refl))
  where
    entry : Entry
    entry = enters.entry

    here : Reaches tells tree (inside place.dir enters.entry.name) (all ++ found_of (place.dir ++ enters.entry.name ∷ []) enters.entry ∷ [])
    here = reaches-entry tells tree place all enters.entry walks enters.listed.later enters.least

    by : (k : Kind) → enters.entry.kind ≡ k → Walks tells tree (next_place k place.dir enters.entry.name) (all ++ found_of (place.dir ++ enters.entry.name ∷ []) enters.entry ∷ [])
    by Dir is_dir =
        let same : inside place.dir enters.entry.name ≡ key_of (place.dir ++ enters.entry.name ∷ []) ++ [] ∷ [] =
        sym (ap (λ (k : List (List ℕ)). k ++ [] ∷ []) (key-more place.dir enters.entry.name) ∙ append_one (key_of place.dir) (folded enters.entry.name) []) in
        let at = subst (λ (high : List (List ℕ)). Reaches tells tree high (all ++ found_of (place.dir ++ enters.entry.name ∷ []) enters.entry ∷ [])) same here in
        record {
          depth = omega (arith, enters.listed.depth, length-append place.dir (enters.entry.name ∷ []));
          rises = at.rises;
          directory = λ told.
              let next = enters.least told in
              subst (IsDirectory tree) (sym (key-more place.dir enters.entry.name))
              (directory_here tree (key_of place.dir) (folded enters.entry.name) next.node next.stands (sym (ap (λ (e : Entry). e.kind) next.shown) ∙ is_dir));
          spells = λ told.
              let next = enters.least told in
              spells-more tree place.dir enters.entry next.node (walks.spells told) next.stands next.shown
              ∙ ap (spelled tree) (sym (key-more place.dir enters.entry.name));
          reads = at.reads;
        }
    by File is_file =
        let rises_on = left_rises (key_of place.dir) (folded enters.entry.name) [] in
        record {
          depth = walks.depth;
          rises = Rises-on _ _ _ here.rises rises_on;
          directory = walks.directory;
          spells = walks.spells;
          reads = λ told is.
              let next = enters.least told in
              Reads-on tree _ _ _ (here.reads told is) rises_on
              (none_left tree is (key_of place.dir) (folded enters.entry.name) None
              (file_ends tree is (key_of place.dir) (folded enters.entry.name) next.node next.stands (sym (ap (λ (e : Entry). e.kind) next.shown) ∙ is_file)));
        }

same_some : (a b : List (List ℕ)) → Some a ≡ Some b → a ≡ b
same_some a b e = cc

pub Walks-leave : (tells : Bool) (tree : Tree) (place next : Place) (all : List Found) → Walks tells tree place all → (tells ≡ true → IsTree tree) → Leaves tells tree place (Some next) → Walks tells tree next all
Walks-leave tells tree place next all walks is leaves =
    record {
      depth = omega (arith, walks.depth, ap length above ∙ length-append next.dir (name ∷ []));
      rises = Rises-on (floor place) (floor next) all walks.rises less;
      directory = λ told.
          above-more tree key (folded name) (is told)
          (directory_stands tree key (folded name) [] (subst (IsDirectory tree) key_is (walks.directory told)));
      spells = λ told.
          same_some next.dir (spelled tree key)
          (sym (parent-more next.dir name)
          ∙ ap parent_of (sym above ∙ walks.spells told ∙ ap (spelled tree) key_is ∙ spelled-more tree key (folded name))
          ∙ parent-more (spelled tree key) (spelling_at tree (key ++ folded name ∷ [])));
      reads = λ told whole.
          Reads-on tree (floor place) (floor next) all (walks.reads told whole) less
          (λ q from below.
          none_left tree whole key (folded name) place.after (subst (λ (k : List (List ℕ)). IsEnd tree k place.after) key_is (leaves.ends told)) q
          (ap (λ (low : List (List ℕ)). is_lt (key_cmp q low)) (sym low_is) ∙ from)
          (ap (key_cmp q) (sym high_is) ∙ below));
    }
  where
    name : List ℕ
    name = leaves.behind.0

    key : List (List ℕ)
    key = key_of next.dir

    above : place.dir ≡ next.dir ++ leaves.behind.0 ∷ []
    above = leaves.behind.1

    key_is : key_of place.dir ≡ key_of next.dir ++ folded leaves.behind.0 ∷ []
    key_is = ap key_of leaves.behind.1 ∙ key-more next.dir leaves.behind.0

    low_is : floor place ≡ key_of next.dir ++ folded leaves.behind.0 ∷ floor_of place.after ∷ []
    low_is = ap (λ (k : List (List ℕ)). k ++ floor_of place.after ∷ []) key_is ∙ append_one (key_of next.dir) (folded leaves.behind.0) (floor_of place.after)

    high_is : floor next ≡ key_of next.dir ++ (folded leaves.behind.0 ++ 0 ∷ []) ∷ []
    high_is = ap (λ (after : Option (List ℕ)). key_of next.dir ++ floor_of after ∷ []) leaves.behind.2

    less : key_cmp (floor place) (floor next) ≡ Less
    less = ap (λ (k : List (List ℕ)). key_cmp k (floor next)) low_is ∙ ap (key_cmp (key_of next.dir ++ folded leaves.behind.0 ∷ floor_of place.after ∷ [])) high_is ∙ left_rises (key_of next.dir) (folded leaves.behind.0) (floor_of place.after)

pub Walks-end : (tells : Bool) (tree : Tree) (place : Place) (all : List Found) → Walks tells tree place all → Leaves tells tree place None → tells ≡ true → IsTree tree → AreAllOf tree all
Walks-end tells tree place all walks leaves told is key = (walks.reads told is).each key ∙ at (key_cmp key (floor place)) refl
  where
    root : key_of place.dir ≡ []
    root = ap key_of leaves.behind

    ahead : is_lt (key_cmp key (floor place)) ≡ false → get tree key ≡ None
    ahead from =
        none_ahead tree is place.after (subst (λ (k : List (List ℕ)). IsEnd tree k place.after) root (leaves.ends told)) key
        (ap (λ (k : List (List ℕ)). is_lt (key_cmp key (k ++ floor_of place.after ∷ []))) (sym root) ∙ from)

    at : (r : Ordering) → key_cmp key (floor place) ≡ r → cond (is_lt r) (seen_at tree key) None ≡ seen_at tree key
    at Less e = refl
    at Equal e = sym (unseen tree key (ahead (ap is_lt e)))
    at Greater e = sym (unseen tree key (ahead (ap is_lt e)))

pub Walks-rising : (tells : Bool) (tree : Tree) (place : Place) (all : List Found) → Walks tells tree place all → are_rising all ≡ true
Walks-rising tells tree place all walks = Rises-rising (floor place) all walks.rises

pub Walks-root : (tells : Bool) (tree : Tree) (place : Place) (all : List Found) → Walks tells tree place all → found_at all [] ≡ None
Walks-root tells tree place all walks = walks.rises.root

-- Steps, under another name of the tree

Enters-same : (tells : Bool) (s t : Tree) (place : Place) (found : Found) (next : Place) → (tells ≡ true → s ≡ t) → Enters tells s place found next → Enters tells t place found next
Enters-same tells s t place found next same enters =
    record {
      entry = enters.entry;
      listed = enters.listed;
      least = λ told. subst (λ (x : Tree). IsNext x (key_of place.dir) place.after enters.entry) (same told) (enters.least told);
      is_found = enters.is_found;
      goes_on = enters.goes_on;
    }

Leaves-same : (tells : Bool) (s t : Tree) (place : Place) (next : Option Place) → (tells ≡ true → s ≡ t) → Leaves tells s place next → Leaves tells t place next
Leaves-same tells s t place next same leaves =
    record {
      behind = leaves.behind;
      ends = λ told. subst (λ (x : Tree). IsEnd x (key_of place.dir) place.after) (same told) (leaves.ends told);
    }

pub Steps-same : (tells : Bool) (s t : Tree) (place : Place) (step known : Step) → (tells ≡ true → s ≡ t) → step ≡ known → Steps tells s place step → Steps tells t place known
Steps-same tells s t place made known same is steps = by known (subst (Steps tells s place) is steps)
  where
    by : (known : Step) → Steps tells s place known → Steps tells t place known
    by (step.Entered found next) enters = Enters-same tells s t place found next same enters
    by (step.Left next) leaves = Leaves-same tells s t place (Some next) same leaves
    by step.Ended leaves = Leaves-same tells s t place None same leaves
