-- Lists in the order of their keys.
use Rattle.std.proofs.Common.{◌≡◌, ℕ, Bool, true, false, cond, ◌&&◌, List, [], ◌∷◌, Option, None, Some, map, refl, sym, ap, subst, ◌∙◌}
use Rattle.std.specs.Prelude.{T, option_map}
use Rattle.std.specs.List.{cons_option, filter_map}
use Rattle.std.specs.Option.{option_and_then}
use Rattle.std.specs.FinMap.Entries.{find, is_sorted, below_all}
use Rattle.std.specs.Ordering.{eq_by_cmp, is_eq, is_lt}
use Rattle.std.specs.declared.cmp.Ordering.{Ordering}
use Rattle.std.specs.declared.cmp.Ordering.TheVariants.{Less, Equal, Greater}
use Rattle.rc_tree.specs.Path.{key_cmp}
use Rattle.rc_tree.proofs.Keys.{key_cmp-total, same_key, key_itself, below_apart}

abbrev pub Key : Type 0
Key = List (List ℕ)

pub some_none : {A : Type 0} (x : A) → None ≡ Some x → ⊥
some_none x e = cc

pub same_some : {A : Type 0} (x y : A) → Some x ≡ Some y → x ≡ y
same_some x y e = cc

pub first_part : (a b : Bool) → T (a && b) → T a
first_part true b p = tt
first_part false b p = p

pub second_part : (a b : Bool) → T (a && b) → T b
second_part true b p = p
second_part false b p = absurd p

pub both : (a b : Bool) → T a → T b → T (a && b)
both true b p q = q
both false b p q = p

pub less : (r : Ordering) → T (is_lt r) → r ≡ Less
less Less p = refl
less Equal p = absurd p
less Greater p = absurd p

pub holds : (b : Bool) → b ≡ true → T b
holds b e = subst T (sym e) tt

pub is_true : (b : Bool) → T b → b ≡ true
is_true true p = refl
is_true false p = absurd p

-- each under its key
abbrev pub under : {X : Type 0} → (X → Key) → List X → List (Key × X)
under place xs = map (λ x. (place x, x)) xs

-- the one at a key
abbrev pub at_key : {X : Type 0} → (X → Key) → List X → Key → Option X
at_key place xs key = find key_cmp key (under place xs)

module _ {X : Type 0} (place : X → Key) where
  pub below_less : (j k : Key) (xs : List X) → key_cmp j k ≡ Less → T (below_all key_cmp k (under place xs)) → T (below_all key_cmp j (under place xs))
  below_less j k [] l below = tt
  below_less j k (x ∷ xs) l below =
      both _ _ (holds _ (ap is_lt (key_cmp-total.trans j k (place x) l (less _ (first_part _ _ below))))) (below_less j k xs l (second_part (is_lt (key_cmp k (place x))) _ below))

  pub absent : (key : Key) (xs : List X) → T (below_all key_cmp key (under place xs)) → at_key place xs key ≡ None
  absent key [] below = refl
  absent key (x ∷ xs) below =
      ap (λ r. cond (is_eq r) (Some x) (at_key place xs key)) (less _ (first_part _ _ below)) ∙ absent key xs (second_part (is_lt (key_cmp key (place x))) _ below)

  pub found_above : (low key : Key) (xs : List X) (x : X) → T (below_all key_cmp low (under place xs)) → at_key place xs key ≡ Some x → key_cmp low key ≡ Less
  found_above low key [] x below e = absurd (some_none x e)
  found_above low key (first ∷ xs) x below e =
      elim (eq_by_cmp key_cmp key (place first)) as (λ b. eq_by_cmp key_cmp key (place first) ≡ b → cond b (Some first) (at_key place xs key) ≡ Some x → key_cmp low key ≡ Less) [
        | true ↦ λ is _. ap (key_cmp low) (same_key key (place first) is) ∙ less _ (first_part _ _ below)
        | false ↦ λ _ later. found_above low key xs x (second_part (is_lt (key_cmp low (place first))) _ below) later
      ] refl e

  pub at_first : (first : X) (xs : List X) → at_key place (first ∷ xs) (place first) ≡ Some first
  at_first first xs = ap (λ b. cond b (Some first) (at_key place xs (place first))) (key_itself (place first))

  pub behind_first : (first : X) (xs : List X) (key : Key) → key_cmp (place first) key ≡ Less → at_key place (first ∷ xs) key ≡ at_key place xs key
  behind_first first xs key above = ap (λ b. cond b (Some first) (at_key place xs key)) (below_apart (place first) key above)

  -- where none is at the root, all are above it
  pub above_root : (xs : List X) → at_key place xs [] ≡ None → T (below_all key_cmp [] (under place xs))
  above_root [] none = tt
  above_root (x ∷ xs) none = by (place x) none (above_root xs)
    where
      by : (k : Key) → cond (eq_by_cmp key_cmp [] k) (Some x) (at_key place xs []) ≡ None → (at_key place xs [] ≡ None → T (below_all key_cmp [] (under place xs))) → T (is_lt (key_cmp [] k) && below_all key_cmp [] (under place xs))
      by [] some rest = absurd (some_none x (sym some))
      by (name ∷ names) none rest = rest none

-- Lists of parts

module _ {X Y : Type 0} (place : Y → Key) (part : X → Y) where
  pub below_parts : (key : Key) (xs : List X) → below_all key_cmp key (under (λ x. place (part x)) xs) ≡ below_all key_cmp key (under place (map part xs))
  below_parts key [] = refl
  below_parts key (x ∷ xs) = ap (λ b. is_lt (key_cmp key (place (part x))) && b) (below_parts key xs)

  pub sorted_parts : (xs : List X) → is_sorted key_cmp (under (λ x. place (part x)) xs) ≡ is_sorted key_cmp (under place (map part xs))
  sorted_parts [] = refl
  sorted_parts (x ∷ xs) =
      ap (λ b. b && is_sorted key_cmp (under (λ x. place (part x)) xs)) (below_parts (place (part x)) xs)
      ∙ ap (λ b. below_all key_cmp (place (part x)) (under place (map part xs)) && b) (sorted_parts xs)

  pub part_at : (xs : List X) (key : Key) → option_map part (at_key (λ x. place (part x)) xs key) ≡ at_key place (map part xs) key
  part_at [] key = refl
  part_at (x ∷ xs) key =
      elim (eq_by_cmp key_cmp key (place (part x))) as (λ b. option_map part (cond b (Some x) (at_key (λ x. place (part x)) xs key)) ≡ cond b (Some (part x)) (at_key place (map part xs) key)) [
        | true ↦ refl
        | false ↦ part_at xs key
      ]

-- Those that some give

module _ {X Y : Type 0} (place : X → Key) (home : Y → Key) (give : X → Option Y) (same : (x : X) (y : Y) → give x ≡ Some y → home y ≡ place x) where
  below_given : (key : Key) (xs : List X) → T (below_all key_cmp key (under place xs)) → T (below_all key_cmp key (under home (filter_map give xs)))
  below_given key [] below = tt
  below_given key (x ∷ xs) below =
      by (give x) refl (below_given key xs (second_part (is_lt (key_cmp key (place x))) _ below))
    where
      by : (o : Option Y) → give x ≡ o → T (below_all key_cmp key (under home (filter_map give xs))) → T (below_all key_cmp key (under home (cons_option o (filter_map give xs))))
      by None e rest = rest
      by (Some y) e rest = both _ _ (subst (λ (k : Key). T (is_lt (key_cmp key k))) (sym (same x y e)) (first_part _ _ below)) rest

  pub sorted_given : (xs : List X) → T (is_sorted key_cmp (under place xs)) → T (is_sorted key_cmp (under home (filter_map give xs)))
  sorted_given [] sorted = tt
  sorted_given (x ∷ xs) sorted =
      by (give x) refl (sorted_given xs (second_part (below_all key_cmp (place x) (under place xs)) _ sorted))
    where
      by : (o : Option Y) → give x ≡ o → T (is_sorted key_cmp (under home (filter_map give xs))) → T (is_sorted key_cmp (under home (cons_option o (filter_map give xs))))
      by None e rest = rest
      by (Some y) e rest =
          both _ _
          (subst (λ (k : Key). T (below_all key_cmp k (under home (filter_map give xs)))) (sym (same x y e)) (below_given (place x) xs (first_part _ _ sorted)))
          rest

  pub given_at : (xs : List X) → T (is_sorted key_cmp (under place xs)) → (key : Key) → at_key home (filter_map give xs) key ≡ option_and_then give (at_key place xs key)
  given_at [] sorted key = refl
  given_at (x ∷ xs) sorted key =
      by (given_at xs (second_part (below_all key_cmp (place x) (under place xs)) _ sorted) key) (give x) refl (eq_by_cmp key_cmp key (place x)) refl
    where
      nothing : key ≡ place x → at_key place xs key ≡ None
      nothing is = ap (at_key place xs) is ∙ absent place (place x) xs (first_part _ _ sorted)

      by : at_key home (filter_map give xs) key ≡ option_and_then give (at_key place xs key) → (o : Option Y) → give x ≡ o → (b : Bool) → eq_by_cmp key_cmp key (place x) ≡ b → at_key home (cons_option o (filter_map give xs)) key ≡ option_and_then give (cond b (Some x) (at_key place xs key))
      by rest None e true is = rest ∙ ap (option_and_then give) (nothing (same_key key (place x) is)) ∙ sym e
      by rest None e false is = rest
      by rest (Some y) e b is =
          ap (λ (k : Key). cond (eq_by_cmp key_cmp key k) (Some y) (at_key home (filter_map give xs) key)) (same x y e)
          ∙ ap (λ (b : Bool). cond b (Some y) (at_key home (filter_map give xs) key)) is
          ∙ last b
        where
          last : (b : Bool) → cond b (Some y) (at_key home (filter_map give xs) key) ≡ option_and_then give (cond b (Some x) (at_key place xs key))
          last true = sym e
          last false = rest
