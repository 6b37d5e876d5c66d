-- What the first and the last items of a rising list have at each key.
use Rattle.std.proofs.Common.{◌≡◌, ℕ, zero, suc, ◌+◌, ◌<◌, Bool, true, false, cond, ◌&&◌, List, [], ◌∷◌, ◌++◌, Option, Some, None, length, get_or, take, drop, map, refl, sym, ap, subst, ◌∙◌, arith}
use Rattle.std.proofs.lemmas.List.{take_more, drop_more, map-append}
use Rattle.std.specs.Prelude.{T, Contains}
use Rattle.std.specs.FinMap.Entries.{find, find-append, is_sorted, below_all}
use Rattle.std.specs.Ordering.{eq_by_cmp, is_lt, ordering_reverse}
use Rattle.std.specs.declared.cmp.Ordering.{Ordering}
use Rattle.std.specs.declared.cmp.Ordering.TheVariants.{Less, Equal, Greater}
use Rattle.rc_tree.specs.Path.{key_of, key_cmp}
use Rattle.rc_tree.proofs.Keys.{key_cmp-total, same_key, key_itself, below_apart, below_not_same}
use Rattle.rc_class.specs.declared.item.Item.{Item}
use Rattle.rc_class.specs.Items.{keyed, item_at, are_rising}

first_so : (a b : Bool) → T (a && b) → T a
first_so true b p = tt
first_so false b p = p

second_so : (a b : Bool) → T (a && b) → T b
second_so true b p = p
second_so false b p = absurd p

pub is_so : (b : Bool) → b ≡ true → T b
is_so b e = subst T (sym e) tt

less : (r : Ordering) → T (is_lt r) → r ≡ Less
less Less p = refl
less Equal p = absurd p
less Greater p = absurd p

some_none : {A : Type 0} (x : A) → None ≡ Some x → ⊥
some_none x e = cc

same_some : {A : Type 0} (x y : A) → Some x ≡ Some y → x ≡ y
same_some x y e = cc

abbrev pub Sorted : List Item → Type 0
Sorted items = T (is_sorted key_cmp (map keyed items))

below_get : (key : List (List ℕ)) (items : List Item) (k : ℕ) (d : Item) → T (below_all key_cmp key (map keyed items)) → k < length items → key_cmp key (key_of (get_or items k d).path) ≡ Less
below_get key [] k d below l = absurd (omega (arith, l))
below_get key (item ∷ items) zero d below l = less _ (first_so _ _ below)
below_get key (item ∷ items) (suc k) d below l = below_get key items k d (second_so _ _ below) (omega (arith, l))

-- an item is found at its key
pub found_own : (items : List Item) (k : ℕ) (d : Item) → Sorted items → k < length items → item_at items (key_of (get_or items k d).path) ≡ Some (get_or items k d)
found_own [] k d sorted l = absurd (omega (arith, l))
found_own (item ∷ items) zero d sorted l = ap (λ b. cond b (Some item) (item_at items (key_of item.path))) (key_itself (key_of item.path))
found_own (item ∷ items) (suc k) d sorted l =
    ap (λ b. cond b (Some item) (item_at items (key_of (get_or items k d).path)))
    (below_apart (key_of item.path) (key_of (get_or items k d).path) (below_get (key_of item.path) items k d (first_so _ _ sorted) (omega (arith, l))))
    ∙ found_own items k d (second_so _ _ sorted) (omega (arith, l))

pub own_item : (items : List Item) (i : ℕ) (item : Item) → are_rising items ≡ true → i < length items → item ≡ get_or items i item → item_at items (key_of item.path) ≡ Some item
own_item items i item rising l is =
    ap (λ (x : Item). item_at items (key_of x.path)) is ∙ found_own items i item (is_so _ rising) l ∙ ap (λ (x : Item). Some x) (sym is)

pub contains_item : (items : List Item) (i : ℕ) (item : Item) → i < length items → item ≡ get_or items i item → Contains items item
contains_item items i item l is = (i, l, sym is)

-- The first ones

-- no item before one has its key
missing_before : (items : List Item) (i : ℕ) (item : Item) → Sorted items → i < length items → item ≡ get_or items i item → find key_cmp (key_of item.path) (map keyed (take i items)) ≡ None
missing_before [] i item sorted l is = absurd (omega (arith, l))
missing_before (first ∷ items) zero item sorted l is = refl
missing_before (first ∷ items) (suc i) item sorted l is =
    let above : key_cmp (key_of first.path) (key_of item.path) ≡ Less = ap (λ (x : Item). key_cmp (key_of first.path) (key_of x.path)) is ∙ below_get (key_of first.path) items i item (first_so _ _ sorted) (omega (arith, l)) in
    ap (λ b. cond b (Some first) (find key_cmp (key_of item.path) (map keyed (take i items)))) (below_apart (key_of first.path) (key_of item.path) above)
    ∙ missing_before items i item (second_so _ _ sorted) (omega (arith, l)) is

pub front_missing : (items : List Item) (i : ℕ) (item : Item) → are_rising items ≡ true → i < length items → item ≡ get_or items i item → item_at (take i items) (key_of item.path) ≡ None
front_missing items i item rising l is = missing_before items i item (is_so _ rising) l is

-- one more item
pub front_grown : (items : List Item) (i : ℕ) (item : Item) (key : List (List ℕ)) → are_rising items ≡ true → i < length items → item ≡ get_or items i item → item_at (take (i + 1) items) key ≡ cond (eq_by_cmp key_cmp key (key_of item.path)) (Some item) (item_at (take i items) key)
front_grown items i item key rising l is =
    ap (λ (done : List Item). item_at done key) (take_more items i item l ∙ ap (λ (x : Item). take i items ++ x ∷ []) (sym is))
    ∙ ap (find key_cmp key) (map-append keyed (take i items) (item ∷ []))
    ∙ find-append key_cmp key_cmp-total (map keyed (take i items)) (key_of item.path) item key (front_missing items i item rising l is)

-- what is found among the first items is found among all
pub front_found : (items : List Item) (i : ℕ) (key : List (List ℕ)) (item : Item) → item_at (take i items) key ≡ Some item → item_at items key ≡ Some item
front_found [] zero key item e = e
front_found [] (suc i) key item e = e
front_found (first ∷ items) zero key item e = absurd (some_none item e)
front_found (first ∷ items) (suc i) key item e = by (front_found items i key item) (eq_by_cmp key_cmp key (key_of first.path)) e
  where
    by : (item_at (take i items) key ≡ Some item → item_at items key ≡ Some item) → (b : Bool) → cond b (Some first) (item_at (take i items) key) ≡ Some item → cond b (Some first) (item_at items key) ≡ Some item
    by later true h = h
    by later false h = later h

found_above : (low key : List (List ℕ)) (items : List Item) (item : Item) → T (below_all key_cmp low (map keyed items)) → item_at items key ≡ Some item → key_cmp low key ≡ Less
found_above low key [] item below e = absurd (some_none item e)
found_above low key (first ∷ items) item below e =
    elim (eq_by_cmp key_cmp key (key_of first.path)) as (λ b. eq_by_cmp key_cmp key (key_of first.path) ≡ b → cond b (Some first) (item_at items key) ≡ Some item → key_cmp low key ≡ Less) [
      | true ↦ λ is _. ap (key_cmp low) (same_key key (key_of first.path) is) ∙ less _ (first_so _ _ below)
      | false ↦ λ _ later. found_above low key items item (second_so (is_lt (key_cmp low (key_of first.path))) _ below) later
    ] refl e

-- no key lies below another and above it too
not_both : (a b : List (List ℕ)) → key_cmp a b ≡ Less → key_cmp b a ≡ Less → ⊥
not_both a b one other = by (sym other ∙ key_cmp-total.antisymm b a ∙ ap ordering_reverse one)
  where
    by : Less ≡ Greater → ⊥
    by e = cc

-- what is found at a key below that of an item is among those before it
earlier_before : (items : List Item) (i : ℕ) (item : Item) (key : List (List ℕ)) (above : Item) → Sorted items → i < length items → item ≡ get_or items i item → key_cmp key (key_of item.path) ≡ Less → item_at items key ≡ Some above → item_at (take i items) key ≡ Some above
earlier_before [] i item key above sorted l is lower e = absurd (omega (arith, l))
earlier_before (first ∷ items) zero item key above sorted l is lower e =
    elim (eq_by_cmp key_cmp key (key_of first.path)) as (λ b. eq_by_cmp key_cmp key (key_of first.path) ≡ b → cond b (Some first) (item_at items key) ≡ Some above → None ≡ Some above) [
      | true ↦ λ same _. absurd (below_not_same key (key_of item.path) lower (ap (λ (x : Item). key_of x.path) is ∙ sym (same_key key (key_of first.path) same)))
      | false ↦ λ _ later. absurd (not_both key (key_of first.path) (ap (λ (x : Item). key_cmp key (key_of x.path)) (sym is) ∙ lower) (found_above (key_of first.path) key items above (first_so _ _ sorted) later))
    ] refl e
earlier_before (first ∷ items) (suc i) item key above sorted l is lower e =
    by (λ at. earlier_before items i item key above (second_so _ _ sorted) (omega (arith, l)) is lower at) (eq_by_cmp key_cmp key (key_of first.path)) e
  where
    by : (item_at items key ≡ Some above → item_at (take i items) key ≡ Some above) → (b : Bool) → cond b (Some first) (item_at items key) ≡ Some above → cond b (Some first) (item_at (take i items) key) ≡ Some above
    by later true h = h
    by later false h = later h

pub front_has : (items : List Item) (i : ℕ) (item : Item) (key : List (List ℕ)) (above : Item) → are_rising items ≡ true → i < length items → item ≡ get_or items i item → key_cmp key (key_of item.path) ≡ Less → item_at items key ≡ Some above → item_at (take i items) key ≡ Some above
front_has items i item key above rising l is lower e = earlier_before items i item key above (is_so _ rising) l is lower e

-- The last ones

none_below : (low : List (List ℕ)) (items : List Item) → T (below_all key_cmp low (map keyed items)) → item_at items low ≡ None
none_below low items below = by (item_at items low) refl
  where
    by : (o : Option Item) → item_at items low ≡ o → o ≡ None
    by None e = refl
    by (Some item) e = absurd (below_not_same low low (found_above low low items item below e) refl)

-- no item behind one has its key
missing_behind : (items : List Item) (i : ℕ) (d : Item) → Sorted items → i < length items → item_at (drop (suc i) items) (key_of (get_or items i d).path) ≡ None
missing_behind [] i d sorted l = absurd (omega (arith, l))
missing_behind (first ∷ items) zero d sorted l = none_below (key_of first.path) items (first_so _ _ sorted)
missing_behind (first ∷ items) (suc i) d sorted l = missing_behind items i d (second_so _ _ sorted) (omega (arith, l))

pub back_missing : (items : List Item) (i : ℕ) (item : Item) → are_rising items ≡ true → i < length items → item ≡ get_or items i item → item_at (drop (i + 1) items) (key_of item.path) ≡ None
back_missing items i item rising l is =
    let on : i + 1 ≡ suc i = omega arith in
    ap (λ (x : Item). item_at (drop (i + 1) items) (key_of x.path)) is
    ∙ ap (λ (n : ℕ). item_at (drop n items) (key_of (get_or items i item).path)) on
    ∙ missing_behind items i item (is_so _ rising) l

pub back_grown : (items : List Item) (i : ℕ) (item : Item) (key : List (List ℕ)) → i < length items → item ≡ get_or items i item → item_at (drop i items) key ≡ cond (eq_by_cmp key_cmp key (key_of item.path)) (Some item) (item_at (drop (i + 1) items) key)
back_grown items i item key l is =
    ap (λ (rest : List Item). item_at rest key) (drop_more items i item l ∙ ap (λ (x : Item). x ∷ drop (i + 1) items) (sym is))

-- what is found among the last items is found among all
found_behind : (items : List Item) (i : ℕ) (key : List (List ℕ)) (item : Item) → Sorted items → item_at (drop i items) key ≡ Some item → item_at items key ≡ Some item
found_behind items zero key item sorted e = e
found_behind [] (suc i) key item sorted e = e
found_behind (first ∷ items) (suc i) key item sorted e =
    let later = found_behind items i key item (second_so _ _ sorted) e in
    ap (λ b. cond b (Some first) (item_at items key)) (below_apart (key_of first.path) key (found_above (key_of first.path) key items item (first_so _ _ sorted) later)) ∙ later

pub back_found : (items : List Item) (i : ℕ) (key : List (List ℕ)) (item : Item) → are_rising items ≡ true → item_at (drop i items) key ≡ Some item → item_at items key ≡ Some item
back_found items i key item rising e = found_behind items i key item (is_so _ rising) e

-- what is found at a key above that of an item is among those behind it
later_behind : (items : List Item) (i : ℕ) (item : Item) (key : List (List ℕ)) (below : Item) → Sorted items → i < length items → item ≡ get_or items i item → key_cmp (key_of item.path) key ≡ Less → item_at items key ≡ Some below → item_at (drop (suc i) items) key ≡ Some below
later_behind [] i item key below sorted l is higher e = absurd (omega (arith, l))
later_behind (first ∷ items) zero item key below sorted l is higher e =
    sym (ap (λ b. cond b (Some first) (item_at items key)) (below_apart (key_of first.path) key (ap (λ (x : Item). key_cmp (key_of x.path) key) (sym is) ∙ higher))) ∙ e
later_behind (first ∷ items) (suc i) item key below sorted l is higher e =
    let above : key_cmp (key_of first.path) (key_of item.path) ≡ Less = ap (λ (x : Item). key_cmp (key_of first.path) (key_of x.path)) is ∙ below_get (key_of first.path) items i item (first_so _ _ sorted) (omega (arith, l)) in
    later_behind items i item key below (second_so _ _ sorted) (omega (arith, l)) is higher
    (elim (eq_by_cmp key_cmp key (key_of first.path)) as (λ b. eq_by_cmp key_cmp key (key_of first.path) ≡ b → cond b (Some first) (item_at items key) ≡ Some below → item_at items key ≡ Some below) [
      | true ↦ λ same _. absurd (not_both (key_of first.path) (key_of item.path) above (ap (key_cmp (key_of item.path)) (sym (same_key key (key_of first.path) same)) ∙ higher))
      | false ↦ λ _ later. later
    ] refl e)

pub back_has : (items : List Item) (i : ℕ) (item : Item) (key : List (List ℕ)) (below : Item) → are_rising items ≡ true → i < length items → item ≡ get_or items i item → key_cmp (key_of item.path) key ≡ Less → item_at items key ≡ Some below → item_at (drop (i + 1) items) key ≡ Some below
back_has items i item key below rising l is higher e =
    let on : suc i ≡ i + 1 = omega arith in
    subst (λ (n : ℕ). item_at (drop n items) key ≡ Some below) on (later_behind items i item key below (is_so _ rising) l is higher e)
