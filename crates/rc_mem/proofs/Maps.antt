-- Ordered maps whose entries are shown as those of a finite map.
use Rattle.std.proofs.Common.{◌≡◌, ◌≢◌, zero, suc, arith, Bool, true, false, cond, ◌&&◌, T, List, [], ◌∷◌, map, Option, Some, refl, sym, ap, subst, ◌∙◌}
use Rattle.std.specs.Prelude.{option_map}
use Rattle.std.specs.List.{All, AllByRecursion}
use Rattle.std.specs.Ordering.{is_eq, is_lt, eq_by_cmp}
use Rattle.std.specs.declared.cmp.Ordering.{Ordering}
use Rattle.std.specs.declared.cmp.Ordering.TheVariants.{Less, Equal, Greater}
use Rattle.std.specs.Cmp.{IsTotalOrder, tied_itself}
use Rattle.std.specs.Map.{keys_of, values_of, lookup}
use Rattle.std.specs.BTreeMap as btree
use Rattle.std.specs.BTreeMap.{BTreeMap, IsOrdered, UpdatesBy}
use Rattle.std.specs.FinMap.{FinMap, IsAntisymmetric, get, entries, from_entries, from_sorted, find, is_sorted, same_map, get-from_entries, get-from_sorted, entries-from_sorted}
use Rattle.std.specs.FinMap.Entries.{below_all}
use Rattle.std.specs.List.Sorted.{IsStrictlySortedBy}
use Rattle.std.proofs.lemmas.Map.Keys.{sorted_head, sorted_tail}

-- both parts of a test of two
both : (a b : Bool) → T a → T b → T (a && b)
both true b p q = q
both false b p q = p

below : (r : Ordering) → r ≡ Less → T (is_lt r)
below Less e = tt
below Equal e = cc
below Greater e = cc

tied : (r : Ordering) → is_eq r ≡ true → r ≡ Equal
tied Less e = cc
tied Equal e = refl
tied Greater e = cc

module _ {K X Y : Type 0} (R : K → K → Ordering) (show : X → Y) where
  -- an entry with its value shown
  abbrev pub with_shown : K × X → K × Y
  with_shown e = (e.0, show e.1)

  -- the finite map of the shown entries
  abbrev pub shown_map : BTreeMap K X → FinMap R Y
  shown_map m = from_entries (map with_shown m.entries)

  find-shown : (q : K) (es : List (K × X)) → find R q (map with_shown es) ≡ option_map show (lookup (λ k. is_eq (R q k)) es)
  find-shown q [] = refl
  find-shown q (e ∷ es) = elim (is_eq (R q e.0)) as (λ b. cond b (Some (show e.1)) (find R q (map with_shown es)) ≡ option_map show (cond b (Some e.1) (lookup (λ k. is_eq (R q k)) es))) [
    | true ↦ refl
    | false ↦ find-shown q es
  ]

  below_all-shown : (k : K) (es : List (K × X)) → AllByRecursion (λ y. R k y ≡ Less) (keys_of es) → T (below_all R k (map with_shown es))
  below_all-shown k [] h = tt
  below_all-shown k (e ∷ es) h = both _ _ (below (R k e.0) h.0) (below_all-shown k es h.1)

  is_sorted-shown : (es : List (K × X)) → IsStrictlySortedBy R (keys_of es) → T (is_sorted R (map with_shown es))
  is_sorted-shown [] h = tt
  is_sorted-shown (e ∷ es) h = both _ _ (below_all-shown e.0 es (sorted_head R e.0 (keys_of es) h)) (is_sorted-shown es (sorted_tail R e.0 (keys_of es) h))

  module _ (o : IsTotalOrder R) where
    -- what the finite map has at a key
    pub get-shown : (m : BTreeMap K X) (q : K) → get (shown_map m) q ≡ option_map show (btree.get R m q)
    get-shown m q = get-from_entries o (map with_shown m.entries) q ∙ find-shown q m.entries

    -- and its entries
    pub entries-shown : IsAntisymmetric R → (m : BTreeMap K X) → IsOrdered R m → entries (shown_map m) ≡ map with_shown m.entries
    entries-shown exact m ordered =
        let es = map with_shown m.entries in
        let sorted = is_sorted-shown m.entries ordered in
        ap entries (same_map o exact (from_entries {R = R} es) (from_sorted es) (λ q. get-from_entries o es q ∙ sym (get-from_sorted R es q sorted))) ∙ entries-from_sorted R es sorted

-- keys that are two do not tie
pub not_tied : {K : Type 0} {R : K → K → Ordering} → IsAntisymmetric R → (x y : K) → x ≢ y → eq_by_cmp R x y ≡ false
not_tied {R = R} exact x y apart = elim (eq_by_cmp R x y) as (λ b. eq_by_cmp R x y ≡ b → b ≡ false) [
  | true ↦ λ e. absurd (apart (exact x y (tied (R x y) e)))
  | false ↦ λ e. refl
] refl

-- the map n has w at this key, and at the others what m has
pub record PutsAt {K X : Type 0} (R : K → K → Ordering) (k : K) (w : Option X) (m n : BTreeMap K X) : Type 0 where
  pub here : btree.get R n k ≡ w
  pub others : (q : K) → q ≢ k → btree.get R n q ≡ btree.get R m q

pub puts-from_updates : {K X : Type 0} {R : K → K → Ordering} → IsAntisymmetric R → (k : K) (w : Option X) (m n : BTreeMap K X) → UpdatesBy R (R k) m n w → PutsAt R k w m n
puts-from_updates exact k w m n h = record { here = h.1; others = λ q apart. h.2 q (not_tied exact k q (λ e. apart (sym e))) }

-- what holds of each entry of two lists makes them one
pub map-same : {A B : Type 0} (f g : A → B) (xs : List A) → All (λ x. f x ≡ g x) xs → map f xs ≡ map g xs
map-same f g [] h = refl
map-same f g (x ∷ xs) h = λ i. h 0 x (omega arith) i ∷ map-same f g xs (λ k d lt. h (suc k) d (omega arith)) i

-- the values shown
pub map-values : {K X Y : Type 0} (show : X → Y) (es : List (K × X)) → map show (values_of es) ≡ map (λ (e : K × X). show e.1) es
map-values show [] = refl
map-values show (e ∷ es) = ap (λ ys. show e.1 ∷ ys) (map-values show es)

-- two keys are one or not
pub key_or : {K P : Type 0} {R : K → K → Ordering} → IsAntisymmetric R → IsTotalOrder R → (x y : K) → (x ≡ y → P) → ((x ≢ y) → P) → P
key_or {P = P} {R = R} exact o x y same apart = elim (R x y) as (λ r. R x y ≡ r → P) [
  | Less ↦ λ e. apart (λ is. (let tie = subst (λ z. R x z ≡ Equal) is (tied_itself o x) in cc))
  | Equal ↦ λ e. same (exact x y e)
  | Greater ↦ λ e. apart (λ is. (let tie = subst (λ z. R x z ≡ Equal) is (tied_itself o x) in cc))
] refl

-- what holds of the first and of the others holds of all
pub all-first : {A : Type 0} (P : A → Type 0) (x : A) (xs : List A) → P x → All P xs → All P (x ∷ xs)
all-first P x xs first rest zero d lt = first
all-first P x xs first rest (suc k) d lt = rest k d (omega arith)
