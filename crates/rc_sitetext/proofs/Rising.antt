-- Entries whose keys rise: the last one is the greatest, and an entry above it goes to the end.
use Rattle.std.proofs.Common.{◌≡◌, suc, ◌-◌, ◌<◌, Bool, true, false, ◌&&◌, List, [], ◌∷◌, ◌++◌, length, get_or, Some, None, refl, sym, ap, ◌∙◌, arith}
use Rattle.std.specs.Prelude.{T}
use Rattle.std.specs.declared.cmp.Ordering.{Ordering}
use Rattle.std.specs.declared.cmp.Ordering.TheVariants.{Less, Equal, Greater}
use Rattle.std.specs.Ordering.{is_lt, ordering_reverse}
use Rattle.std.specs.List.{All, list_all}
use Rattle.std.specs.Cmp.{IsTotalOrder, tied_itself}
use Rattle.std.specs.FinMap.{FinMap, find, is_sorted, put, entries, insert, entries-insert}
use Rattle.std.specs.FinMap.Entries.{below_all}
use Rattle.rc_sitetext.specs.Reading.{last_of}
use Rattle.std.proofs.lemmas.List.Elements.{All-cons, All-nil}

first : (a b : Bool) → T (a && b) → T a
first true b h = tt
first false b h = h

second : (a b : Bool) → T (a && b) → T b
second true b h = h
second false b h = absurd h

less : (r : Ordering) → T (is_lt r) → r ≡ Less
less Less h = refl
less Equal h = absurd h
less Greater h = absurd h

true_is : (b : Bool) → b ≡ true → T b
true_is true e = tt
true_is false e = absurd cc

is_true : (b : Bool) → T b → b ≡ true
is_true true h = refl
is_true false h = absurd h

some_none : {A : Type 0} (x : A) → Some x ≡ None → ⊥
some_none x e = cc

same_some : {A : Type 0} (x y : A) → Some x ≡ Some y → x ≡ y
same_some x y e = cc

and_false : (a : Bool) → (a && false) ≡ false
and_false true = refl
and_false false = refl

and_true : (a : Bool) → (a && true) ≡ a
and_true true = refl
and_true false = refl

both_less : {K : Type 0} (R : K → K → Ordering) (o : IsTotalOrder R) (x y z : K) → R x y ≡ Less → (is_lt (R x z) && is_lt (R y z)) ≡ is_lt (R y z)
both_less R o x y z h =
    elim (R y z) as (λ r. R y z ≡ r → (is_lt (R x z) && is_lt r) ≡ is_lt r) [
      | Less ↦ λ e. rw (o.trans x y z h e) refl
      | Equal ↦ λ e. and_false (is_lt (R x z))
      | Greater ↦ λ e. and_false (is_lt (R x z))
    ] refl

module _ {K X : Type 0} (R : K → K → Ordering) (o : IsTotalOrder R) where
  below_last : (k : K) (es : List (K × X)) (d : K × X) → T (below_all R k es) → 0 < length es → R k (get_or es (length es - 1) d).0 ≡ Less
  below_last k [] d below some = absurd (omega arith)
  below_last k (e ∷ []) d below some = less (R k e.0) (first (is_lt (R k e.0)) true below)
  below_last k (e ∷ f ∷ es) d below some =
      let at : length (e ∷ f ∷ es) - 1 ≡ suc (length (f ∷ es) - 1) = omega arith in
      rw at (below_last k (f ∷ es) d (second (is_lt (R k e.0)) (below_all R k (f ∷ es)) below) (omega arith))

  -- a key is above all keys where it is above the last one
  pub above_last : (q : K) (es : List (K × X)) (d : K × X) → T (is_sorted R es) → 0 < length es → list_all (λ e. is_lt (R e.0 q)) es ≡ is_lt (R (get_or es (length es - 1) d).0 q)
  above_last q [] d sorted some = absurd (omega arith)
  above_last q (e ∷ []) d sorted some = and_true (is_lt (R e.0 q))
  above_last q (e ∷ f ∷ es) d sorted some =
      let at : length (e ∷ f ∷ es) - 1 ≡ suc (length (f ∷ es) - 1) = omega arith in
      let rest = above_last q (f ∷ es) d (second (below_all R e.0 (f ∷ es)) (is_sorted R (f ∷ es)) sorted) (omega arith) in
      let under = below_last e.0 (f ∷ es) d (first (below_all R e.0 (f ∷ es)) (is_sorted R (f ∷ es)) sorted) (omega arith) in
      rw at (ap (λ (b : Bool). is_lt (R e.0 q) && b) rest ∙ both_less R o e.0 (get_or (f ∷ es) (length (f ∷ es) - 1) d).0 q under)

  last_of-at : (es : List (K × X)) (d : K × X) → 0 < length es → last_of es ≡ Some (get_or es (length es - 1) d).0
  last_of-at [] d some = absurd (omega arith)
  last_of-at (e ∷ []) d some = refl
  last_of-at (e ∷ f ∷ es) d some =
      let at : length (e ∷ f ∷ es) - 1 ≡ suc (length (f ∷ es) - 1) = omega arith in
      rw at (last_of-at (f ∷ es) d (omega arith))

  pub last_of-push : (es : List (K × X)) (e : K × X) → last_of (es ++ e ∷ []) ≡ Some e.0
  last_of-push [] e = refl
  last_of-push (f ∷ []) e = refl
  last_of-push (f ∷ g ∷ es) e = last_of-push (g ∷ es) e

  -- a key is above all keys where there is none, or where it is above the last one
  pub above_none : (q : K) (es : List (K × X)) → last_of es ≡ None → list_all (λ e. is_lt (R e.0 q)) es ≡ true
  above_none q [] none = refl
  above_none q (e ∷ es) none = absurd (some_none _ (sym (last_of-at (e ∷ es) e (omega arith)) ∙ none))

  pub above_some : (q : K) (es : List (K × X)) (last : K) → T (is_sorted R es) → last_of es ≡ Some last → list_all (λ e. is_lt (R e.0 q)) es ≡ is_lt (R last q)
  above_some q [] last sorted some = absurd (some_none last (sym some))
  above_some q (e ∷ es) last sorted some =
      above_last q (e ∷ es) e sorted (omega arith)
      ∙ ap (λ (k : K). is_lt (R k q)) (same_some _ last (sym (last_of-at (e ∷ es) e (omega arith)) ∙ some))

  -- the test says so of each entry
  pub above_each : (q : K) (es : List (K × X)) → list_all (λ e. is_lt (R e.0 q)) es ≡ true → All (λ e. R e.0 q ≡ Less) es
  above_each q [] above = All-nil (λ e. R e.0 q ≡ Less)
  above_each q (e ∷ es) above =
      let h = true_is (is_lt (R e.0 q) && list_all (λ e. is_lt (R e.0 q)) es) above in
      let rest = is_true (list_all (λ e. is_lt (R e.0 q)) es) (second (is_lt (R e.0 q)) (list_all (λ e. is_lt (R e.0 q)) es) h) in
      All-cons (λ e. R e.0 q ≡ Less) e es (less (R e.0 q) (first (is_lt (R e.0 q)) (list_all (λ e. is_lt (R e.0 q)) es) h)) (above_each q es rest)

  -- an entry above all goes to the end
  put_last : (k : K) (v : X) (es : List (K × X)) → list_all (λ e. is_lt (R e.0 k)) es ≡ true → put R k v es ≡ es ++ (k, v) ∷ []
  put_last k v [] above = refl
  put_last k v (e ∷ es) above =
      let h = true_is (is_lt (R e.0 k) && list_all (λ e. is_lt (R e.0 k)) es) above in
      let rest = is_true (list_all (λ e. is_lt (R e.0 k)) es) (second (is_lt (R e.0 k)) (list_all (λ e. is_lt (R e.0 k)) es) h) in
      let back : R k e.0 ≡ Greater = o.antisymm k e.0 ∙ ap ordering_reverse (less (R e.0 k) (first (is_lt (R e.0 k)) (list_all (λ e. is_lt (R e.0 k)) es) h)) in
      rw back (ap (λ (t : List (K × X)). e ∷ t) (put_last k v es rest))

  pub entries-insert_last : (m : FinMap R X) (k : K) (v : X) → list_all (λ e. is_lt (R e.0 k)) (entries m) ≡ true → entries (insert m k v) ≡ entries m ++ (k, v) ∷ []
  entries-insert_last m k v above = entries-insert o m k v ∙ put_last k v (entries m) above

-- an entry is above those before it, and is what is found at its key
module _ {K X : Type 0} (R : K → K → Ordering) where
  below_at : (k : K) (xs : List (K × X)) (e : K × X) (es : List (K × X)) → T (below_all R k (xs ++ e ∷ es)) → T (is_lt (R k e.0))
  below_at k [] e es h = first (is_lt (R k e.0)) (below_all R k es) h
  below_at k (x ∷ xs) e es h = below_at k xs e es (second (is_lt (R k x.0)) (below_all R k (xs ++ e ∷ es)) h)

  pub above_front : (xs : List (K × X)) (e : K × X) (es : List (K × X)) → T (is_sorted R (xs ++ e ∷ es)) → list_all (λ x. is_lt (R x.0 e.0)) xs ≡ true
  above_front [] e es h = refl
  above_front (x ∷ xs) e es h =
      let below = below_at x.0 xs e es (first (below_all R x.0 (xs ++ e ∷ es)) (is_sorted R (xs ++ e ∷ es)) h) in
      rw (is_true (is_lt (R x.0 e.0)) below) (above_front xs e es (second (below_all R x.0 (xs ++ e ∷ es)) (is_sorted R (xs ++ e ∷ es)) h))

  pub found_at : (o : IsTotalOrder R) (xs : List (K × X)) (e : K × X) (es : List (K × X)) → T (is_sorted R (xs ++ e ∷ es)) → find R e.0 (xs ++ e ∷ es) ≡ Some e.1
  found_at o [] e es h = rw (tied_itself o e.0) refl
  found_at o (x ∷ xs) e es h =
      let below = below_at x.0 xs e es (first (below_all R x.0 (xs ++ e ∷ es)) (is_sorted R (xs ++ e ∷ es)) h) in
      let back : R e.0 x.0 ≡ Greater = o.antisymm e.0 x.0 ∙ ap ordering_reverse (less (R x.0 e.0) below) in
      rw back (found_at o xs e es (second (below_all R x.0 (xs ++ e ∷ es)) (is_sorted R (xs ++ e ∷ es)) h))
