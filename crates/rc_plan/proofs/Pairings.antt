-- The pairing of two lists as a relation, and what it says of the pairs: their order, and what stands at each key.
use Rattle.std.proofs.Common.{◌≡◌, ℕ, ◌+◌, ◌<◌, true, false, cond, List, [], ◌∷◌, ◌++◌, Option, Some, None, map, length, refl, sym, ap, subst, ◌∙◌, append_assoc, arith}
use Rattle.std.proofs.lemmas.List.{append-nil}
use Rattle.std.specs.Prelude.{T, IfSome}
use Rattle.std.specs.FinMap.Entries.{is_sorted, below_all}
use Rattle.std.specs.Ordering.{eq_by_cmp, is_lt, ordering_reverse}
use Rattle.std.specs.declared.cmp.Ordering.{Ordering}
use Rattle.std.specs.declared.cmp.Ordering.TheVariants.{Less, Equal, Greater}
use Rattle.rc_tree.specs.Path.{key_cmp, key_of}
use Rattle.rc_tree.proofs.Keys.{key_cmp-total, key_cmp-IsAntisymmetric, same_key, key_itself}
use Rattle.rc_plan.specs.declared.entries.Found.{Found}
use Rattle.rc_plan.specs.declared.pairs.Pair.{Pair}
use Rattle.rc_plan.specs.Found.{are_rising, found_at, placed}
use Rattle.rc_plan.specs.Pair.{ArePaired, are_pairs_rising, behind, by_order, least, pair_at, pair_key, pair_of, pair_path, placed_pair}
use Rattle.rc_plan.proofs.Keyed.{Key, absent, below_less, both, first_part, holds, is_true, same_some, second_part, some_none}

-- the pairs of two lists, key by key
pub data Pairs : List Found → List Found → List Pair → Type 0 where
  ends : Pairs [] [] []
  steps : (s t : List Found) (pair : Pair) (pairs : List Pair) → pair_of (least s t).0 (least s t).1 ≡ Some pair → Pairs (behind (least s t).0 s) (behind (least s t).1 t) pairs → Pairs s t (pair ∷ pairs)

is_less : (r : Ordering) → r ≡ Less → T (is_lt r)
is_less r e = subst (λ (o : Ordering). T (is_lt o)) (sym e) tt

abbrev key_found : Found → Key
key_found found = key_of found.path

-- What one side has at the least key

-- a list has this at the key, and what is left lies above it and has what the whole has at all other keys
record Takes (all : List Found) (key : List (List ℕ)) (found : Option Found) : Type 0 where
  stands : found_at all key ≡ found
  spelled : IfSome found (λ f. key_of f.path ≡ key)
  above : T (below_all key_cmp key (map placed (behind found all)))
  others : (q : List (List ℕ)) → eq_by_cmp key_cmp q key ≡ false → found_at (behind found all) q ≡ found_at all q

takes_first : (f : Found) (fs : List Found) → T (is_sorted key_cmp (map placed (f ∷ fs))) → Takes (f ∷ fs) (key_of f.path) (Some f)
takes_first f fs sorted = record {
  stands = ap (λ b. cond b (Some f) (found_at fs (key_of f.path))) (key_itself (key_of f.path));
  spelled = refl;
  above = first_part _ _ sorted;
  others = λ q apart. ap (λ b. cond b (Some f) (found_at fs q)) (sym apart);
}

takes_none : (all : List Found) (key : List (List ℕ)) → T (below_all key_cmp key (map placed all)) → Takes all key None
takes_none all key below = record { stands = absent key_found key all below; spelled = tt; above = below; others = λ q apart. refl }

record TakesLeast (s t : List Found) (taken : Option Found × Option Found) : Type 0 where
  key : List (List ℕ)
  ours : Takes s key taken.0
  theirs : Takes t key taken.1

takes_by : (r : Ordering) (f g : Found) (fs gs : List Found) → key_cmp (key_of f.path) (key_of g.path) ≡ r → T (is_sorted key_cmp (map placed (f ∷ fs))) → T (is_sorted key_cmp (map placed (g ∷ gs))) → TakesLeast (f ∷ fs) (g ∷ gs) (by_order r f g)
takes_by Less f g fs gs e ours theirs = record {
  key = key_of f.path;
  ours = takes_first f fs ours;
  theirs = takes_none (g ∷ gs) (key_of f.path) (both _ _ (is_less _ e) (below_less key_found (key_of f.path) (key_of g.path) gs e (first_part _ _ theirs)));
}
takes_by Equal f g fs gs e ours theirs = record {
  key = key_of g.path;
  ours = subst (λ (k : List (List ℕ)). Takes (f ∷ fs) k (Some f)) (key_cmp-IsAntisymmetric (key_of f.path) (key_of g.path) e) (takes_first f fs ours);
  theirs = takes_first g gs theirs;
}
takes_by Greater f g fs gs e ours theirs =
    let before : key_cmp (key_of g.path) (key_of f.path) ≡ Less = key_cmp-total.antisymm (key_of g.path) (key_of f.path) ∙ ap ordering_reverse e in
    record {
      key = key_of g.path;
      ours = takes_none (f ∷ fs) (key_of g.path) (both _ _ (is_less _ before) (below_less key_found (key_of g.path) (key_of f.path) fs before (first_part _ _ ours)));
      theirs = takes_first g gs theirs;
    }

takes_least : (s t : List Found) → T (is_sorted key_cmp (map placed s)) → T (is_sorted key_cmp (map placed t)) → TakesLeast s t (least s t)
takes_least [] [] ours theirs = record { key = []; ours = takes_none [] [] tt; theirs = takes_none [] [] tt }
takes_least (f ∷ fs) [] ours theirs = record { key = key_of f.path; ours = takes_first f fs ours; theirs = takes_none [] (key_of f.path) tt }
takes_least [] (g ∷ gs) ours theirs = record { key = key_of g.path; ours = takes_none [] (key_of g.path) tt; theirs = takes_first g gs theirs }
takes_least (f ∷ fs) (g ∷ gs) ours theirs = takes_by (key_cmp (key_of f.path) (key_of g.path)) f g fs gs refl ours theirs

sorted_behind : (found : Option Found) (all : List Found) → T (is_sorted key_cmp (map placed all)) → T (is_sorted key_cmp (map placed (behind found all)))
sorted_behind None all sorted = sorted
sorted_behind (Some f) [] sorted = tt
sorted_behind (Some f) (g ∷ gs) sorted = second_part (below_all key_cmp (key_of g.path) (map placed gs)) _ sorted

below_behind : (key : List (List ℕ)) (found : Option Found) (all : List Found) → T (below_all key_cmp key (map placed all)) → T (below_all key_cmp key (map placed (behind found all)))
below_behind key None all below = below
below_behind key (Some f) [] below = tt
below_behind key (Some f) (g ∷ gs) below = second_part (is_lt (key_cmp key (key_of g.path))) _ below

-- what is taken is the first of its side
record FirstAre (P : Found → Type 0) (taken : Option Found × Option Found) : Type 0 where
  ours : IfSome taken.0 P
  theirs : IfSome taken.1 P

first_by : (P : Found → Type 0) (r : Ordering) (f g : Found) → P f → P g → FirstAre P (by_order r f g)
first_by P Less f g p q = record { ours = p; theirs = tt }
first_by P Equal f g p q = record { ours = p; theirs = q }
first_by P Greater f g p q = record { ours = tt; theirs = q }

-- Laws of the pairs

-- the path of a pair is that of what was found
of_path : (P : List (List ℕ) → Type 0) (x y : Option Found) (pair : Pair) → pair_of x y ≡ Some pair → IfSome x (λ f. P f.path) → IfSome y (λ f. P f.path) → P (pair_path pair)
of_path P None None pair e ours theirs = absurd (some_none pair e)
of_path P None (Some g) pair e ours theirs = subst (λ (p : Pair). P (pair_path p)) (same_some _ pair e) theirs
of_path P (Some f) y pair e ours theirs = subst (λ (p : Pair). P (pair_path p)) (same_some _ pair e) ours

-- the firsts of lists above a key lie above it
firsts_above : (key : List (List ℕ)) (s t : List Found) → T (below_all key_cmp key (map placed s)) → T (below_all key_cmp key (map placed t)) → FirstAre (λ x. T (is_lt (key_cmp key (key_of x.path)))) (least s t)
firsts_above key [] [] ours theirs = record { ours = tt; theirs = tt }
firsts_above key (f ∷ fs) [] ours theirs = record { ours = first_part _ _ ours; theirs = tt }
firsts_above key [] (g ∷ gs) ours theirs = record { ours = tt; theirs = first_part _ _ theirs }
firsts_above key (f ∷ fs) (g ∷ gs) ours theirs =
    first_by (λ x. T (is_lt (key_cmp key (key_of x.path)))) (key_cmp (key_of f.path) (key_of g.path)) f g (first_part _ _ ours) (first_part _ _ theirs)

-- pairs lie above a key below which nothing was found
below_pairs : (key : List (List ℕ)) (s t : List Found) (pairs : List Pair) → Pairs s t pairs → T (below_all key_cmp key (map placed s)) → T (below_all key_cmp key (map placed t)) → T (below_all key_cmp key (map placed_pair pairs))
below_pairs key s t pairs ends ours theirs = tt
below_pairs key s t pairs (steps u v pair others e rest) ours theirs =
    let firsts = firsts_above key u v ours theirs in
    both _ _
    (of_path (λ path. T (is_lt (key_cmp key (key_of path)))) (least u v).0 (least u v).1 pair e firsts.ours firsts.theirs)
    (below_pairs key (behind (least u v).0 u) (behind (least u v).1 v) others rest (below_behind key (least u v).0 u ours) (below_behind key (least u v).1 v theirs))

-- the pairs are in the order of their keys
sorted_pairs : (s t : List Found) (pairs : List Pair) → Pairs s t pairs → T (is_sorted key_cmp (map placed s)) → T (is_sorted key_cmp (map placed t)) → T (is_sorted key_cmp (map placed_pair pairs))
sorted_pairs s t pairs ends ours theirs = tt
sorted_pairs s t pairs (steps u v pair others e rest) ours theirs =
    let takes = takes_least u v ours theirs in
    let at : pair_key pair ≡ takes.key = of_path (λ path. key_of path ≡ takes.key) (least u v).0 (least u v).1 pair e takes.ours.spelled takes.theirs.spelled in
    both _ _
    (subst (λ (k : List (List ℕ)). T (below_all key_cmp k (map placed_pair others))) (sym at) (below_pairs takes.key _ _ others rest takes.ours.above takes.theirs.above))
    (sorted_pairs _ _ others rest (sorted_behind (least u v).0 u ours) (sorted_behind (least u v).1 v theirs))

-- at each key they have what the two sides have there
pairs_at : (s t : List Found) (pairs : List Pair) → Pairs s t pairs → T (is_sorted key_cmp (map placed s)) → T (is_sorted key_cmp (map placed t)) → (key : List (List ℕ)) → pair_at pairs key ≡ pair_of (found_at s key) (found_at t key)
pairs_at s t pairs ends ours theirs key = refl
pairs_at s t pairs (steps u v pair others e rest) ours theirs key =
    let takes = takes_least u v ours theirs in
    let at : pair_key pair ≡ takes.key = of_path (λ path. key_of path ≡ takes.key) (least u v).0 (least u v).1 pair e takes.ours.spelled takes.theirs.spelled in
    let later = pairs_at (behind (least u v).0 u) (behind (least u v).1 v) others rest (sorted_behind (least u v).0 u ours) (sorted_behind (least u v).1 v theirs) key in
    ap (λ (k : List (List ℕ)). cond (eq_by_cmp key_cmp key k) (Some pair) (pair_at others key)) at
    ∙ elim (eq_by_cmp key_cmp key takes.key) as (λ b. eq_by_cmp key_cmp key takes.key ≡ b → cond b (Some pair) (pair_at others key) ≡ pair_of (found_at u key) (found_at v key)) [
      | true ↦ λ t.
          let same : takes.key ≡ key = sym (same_key key takes.key t) in
          sym e
          ∙ ap (λ (x : Option Found). pair_of x (least u v).1) (sym takes.ours.stands ∙ ap (found_at u) same)
          ∙ ap (λ (y : Option Found). pair_of (found_at u key) y) (sym takes.theirs.stands ∙ ap (found_at v) same)
      | false ↦ λ apart.
          later
          ∙ ap (λ (x : Option Found). pair_of x (found_at (behind (least u v).1 v) key)) (takes.ours.others key apart)
          ∙ ap (λ (y : Option Found). pair_of (found_at u key) y) (takes.theirs.others key apart)
    ] refl

-- The loop

-- the pairs so far, and what is left of both sides
pub record Pairing (source target ours theirs : List Found) (pairs : List Pair) : Type 0 where
  pub ahead : (rest : List Pair) → Pairs ours theirs rest → Pairs source target (pairs ++ rest)

pub Pairing-start : (source target ours theirs : List Found) (pairs : List Pair) → pairs ≡ [] → ours ≡ source → theirs ≡ target → Pairing source target ours theirs pairs
Pairing-start source target ours theirs pairs none mine yours =
    subst (λ (ps : List Pair). Pairing source target ours theirs ps) (sym none)
    (record { ahead = λ rest left. subst (λ (x : List Found). Pairs x target rest) mine (subst (λ (y : List Found). Pairs ours y rest) yours left) })

pub Pairing-more : (source target ours theirs next others : List Found) (pairs : List Pair) (pair : Pair) → Pairing source target ours theirs pairs → Some pair ≡ pair_of (least ours theirs).0 (least ours theirs).1 → next ≡ behind (least ours theirs).0 ours → others ≡ behind (least ours theirs).1 theirs → Pairing source target next others (pairs ++ pair ∷ [])
Pairing-more source target ours theirs next others pairs pair sofar taken mine yours = record {
  ahead = λ rest left.
      subst (Pairs source target) (sym (append_assoc pairs (pair ∷ []) rest))
      (sofar.ahead (pair ∷ rest) (steps ours theirs pair rest (sym taken)
      (subst (λ (x : List Found). Pairs x (behind (least ours theirs).1 theirs) rest) mine (subst (λ (y : List Found). Pairs next y rest) yours left))));
}

nothing_left : (s t : List Found) → None ≡ pair_of (least s t).0 (least s t).1 → Pairs s t []
nothing_left [] [] e = ends
nothing_left (f ∷ fs) [] e = absurd (some_none _ e)
nothing_left [] (g ∷ gs) e = absurd (some_none _ e)
nothing_left (f ∷ fs) (g ∷ gs) e = absurd (some_by (key_cmp (key_of f.path) (key_of g.path)) e)
  where
    some_by : (r : Ordering) → None ≡ pair_of (by_order r f g).0 (by_order r f g).1 → ⊥
    some_by Less e = some_none _ e
    some_by Equal e = some_none _ e
    some_by Greater e = some_none _ e

-- what a finished pairing answers
pub record Paired (source target : List Found) (pairs : List Pair) : Type 0 where
  pub rising : are_pairs_rising pairs ≡ true
  pub each : ArePaired source target pairs

pub Pairing-end : (source target ours theirs : List Found) (pairs : List Pair) → Pairing source target ours theirs pairs → None ≡ pair_of (least ours theirs).0 (least ours theirs).1 → are_rising source ≡ true → are_rising target ≡ true → Paired source target pairs
Pairing-end source target ours theirs pairs sofar none mine yours =
    let all : Pairs source target pairs = subst (Pairs source target) (append-nil pairs) (sofar.ahead [] (nothing_left ours theirs none)) in
    record {
      rising = is_true _ (sorted_pairs source target pairs all (holds _ mine) (holds _ yours));
      each = pairs_at source target pairs all (holds _ mine) (holds _ yours);
    }

-- a step takes from one of the two
pub fewer : (s t next others : List Found) (pair : Pair) → Some pair ≡ pair_of (least s t).0 (least s t).1 → next ≡ behind (least s t).0 s → others ≡ behind (least s t).1 t → length next + length others < length s + length t
fewer s t next others pair taken mine yours =
    subst (λ (x : List Found). length x + length others < length s + length t) (sym mine)
    (subst (λ (y : List Found). length (behind (least s t).0 s) + length y < length s + length t) (sym yours) (by s t taken))
  where
    by : (s t : List Found) → Some pair ≡ pair_of (least s t).0 (least s t).1 → length (behind (least s t).0 s) + length (behind (least s t).1 t) < length s + length t
    by [] [] e = absurd (some_none pair (sym e))
    by (f ∷ fs) [] e = omega arith
    by [] (g ∷ gs) e = omega arith
    by (f ∷ fs) (g ∷ gs) e = fewer_by (key_cmp (key_of f.path) (key_of g.path))
      where
        fewer_by : (r : Ordering) → length (behind (by_order r f g).0 (f ∷ fs)) + length (behind (by_order r f g).1 (g ∷ gs)) < length (f ∷ fs) + length (g ∷ gs)
        fewer_by Less = omega arith
        fewer_by Equal = omega arith
        fewer_by Greater = omega arith
