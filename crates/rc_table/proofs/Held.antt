-- Rows in memory as a finite map, and what comes next in it.
use Rattle.std.proofs.Common.{◌≡◌, ◌≢◌, ℕ, ◌≤◌, true, false, cond, List, [], ◌∷◌, Option, Some, None, refl, sym, ap, subst, ◌∙◌}
use Rattle.std.specs.Prelude.{length, IfSome, IsSome}
use Rattle.std.specs.List.{slice_get}
use Rattle.std.specs.Ordering.{is_eq, is_gt, eq_by_cmp, ordering_reverse}
use Rattle.std.specs.declared.cmp.Ordering.{Ordering}
use Rattle.std.specs.declared.cmp.Ordering.TheVariants.{Less, Equal, Greater}
use Rattle.std.specs.declared.ops.Bound.TheVariants.{Unbounded}
use Rattle.std.specs.Map.{lookup}
use Rattle.std.specs.BTreeMap as btree
use Rattle.std.specs.BTreeMap.{BTreeMap, UpdatesBy}
use Rattle.std.specs.BTreeMap.Range.{IsEntryInRange, IsFromStart, IsRangeOf}
use Rattle.std.specs.FinMap.{get, find, get-from_entries}
use Rattle.rc_tree.specs.Path.{name_cmp}
use Rattle.rc_tree.proofs.Keys.{name_cmp-total, name_cmp-IsAntisymmetric}
use Rattle.rc_table.specs.declared.row.Row.{Row}
use Rattle.rc_table.specs.Rows.{IsAbove, IsEnd, IsListed, IsNextPath, RowMap, greatest_path_text}
use Rattle.rc_table.specs.SideRows.{AreBounded, PutsAt, held, start_of}

Map : Type 0
Map = BTreeMap (List ℕ) Row

find-lookup : (q : List ℕ) (es : List (List ℕ × Row)) → find name_cmp q es ≡ lookup (λ k. is_eq (name_cmp q k)) es
find-lookup q [] = refl
find-lookup q (e ∷ es) = elim (is_eq (name_cmp q e.0)) as (λ b. cond b (Some e.1) (find name_cmp q es) ≡ cond b (Some e.1) (lookup (λ k. is_eq (name_cmp q k)) es)) [
  | true ↦ refl
  | false ↦ find-lookup q es
]

-- what the finite map has at a path
pub get-held : (m : BTreeMap (List ℕ) Row) (q : List ℕ) → get (held m) q ≡ btree.get name_cmp m q
get-held m q = get-from_entries name_cmp-total m.entries q ∙ find-lookup q m.entries

tied : (r : Ordering) → is_eq r ≡ true → r ≡ Equal
tied Less e = cc
tied Equal e = refl
tied Greater e = cc

-- paths that are two do not tie
not_tied : (x y : List ℕ) → x ≢ y → eq_by_cmp name_cmp x y ≡ false
not_tied x y apart = elim (eq_by_cmp name_cmp x y) as (λ b. eq_by_cmp name_cmp x y ≡ b → b ≡ false) [
  | true ↦ λ e. absurd (apart (name_cmp-IsAntisymmetric x y (tied (name_cmp x y) e)))
  | false ↦ λ e. refl
] refl

module _ (k : List ℕ) (w : Option Row) (m n : BTreeMap (List ℕ) Row) (updates : UpdatesBy name_cmp (name_cmp k) m n w) where
  others-as : (q : List ℕ) → q ≢ k → btree.get name_cmp n q ≡ btree.get name_cmp m q
  others-as q apart = updates.2 q (not_tied k q (λ e. apart (sym e)))

  -- a changed map, as a finite map
  pub puts-held : (old new : RowMap) → held m ≡ old → held n ≡ new → PutsAt k w old new
  puts-held old new was is = record {
    here = ap (λ t. get t k) (sym is) ∙ get-held n k ∙ updates.1;
    others = λ q apart. ap (λ t. get t q) (sym is) ∙ get-held n q ∙ others-as q apart ∙ sym (get-held m q) ∙ ap (λ t. get t q) was;
  }

  -- its paths are short enough, where the new one is
  pub bounded-held : AreBounded m → IfSome w (λ _. length k ≤ greatest_path_text) → AreBounded n
  bounded-held bounded short = λ q. elim (eq_by_cmp name_cmp k q) as (λ b. eq_by_cmp name_cmp k q ≡ b → IfSome (btree.get name_cmp n q) (λ _. length q ≤ greatest_path_text)) [
    | true ↦ λ e. (let same : k ≡ q = name_cmp-IsAntisymmetric k q (tied (name_cmp k q) e) in
        subst (λ (x : List ℕ). IfSome (btree.get name_cmp n x) (λ _. length x ≤ greatest_path_text)) same
        (subst (λ (o : Option Row). IfSome o (λ _. length k ≤ greatest_path_text)) (sym updates.1) short))
    | false ↦ λ e. subst (λ (o : Option Row). IfSome o (λ _. length q ≤ greatest_path_text)) (sym (updates.2 q e)) (bounded q)
  ] refl

-- Listings

from-above : (after : Option (List ℕ)) (q : List ℕ) → IsAbove after q → IsFromStart name_cmp (start_of after) q
from-above None q above = tt
from-above (Some last) q above = above

above-from : (after : Option (List ℕ)) (q : List ℕ) → IsFromStart name_cmp (start_of after) q → IsAbove after q
above-from None q from = tt
above-from (Some last) q from = from

not_less : (r : Ordering) → r ≡ Less → is_gt (ordering_reverse r) ≡ false → ⊥
not_less Less e g = cc
not_less Equal e g = cc
not_less Greater e g = cc

none_or : (o : Option Row) → (IsSome o → ⊥) → o ≡ None
none_or None h = refl
none_or (Some x) h = absurd (h refl)

module _ (m : BTreeMap (List ℕ) Row) (after : Option (List ℕ)) (r : List (List ℕ × Row)) (range : IsRangeOf name_cmp (start_of after) Unbounded m r) where
  -- nothing is left
  pub next-none : r ≡ [] → IsEnd (held m) after
  next-none none = λ q above. get-held m q ∙ range.5 none q (from-above after q above, tt)

  module _ (k : List ℕ) (row : Row) (t : List (List ℕ × Row)) (first : r ≡ (k, row) ∷ t) where
    entry : IsEntryInRange name_cmp (start_of after) Unbounded m (k, row)
    entry = subst (λ (es : List (List ℕ × Row)). IfSome (slice_get es 0) (IsEntryInRange name_cmp (start_of after) Unbounded m)) first range.1

    -- a path below the first is not there
    lower : (q : List ℕ) → IsAbove after q → name_cmp q k ≡ Less → get (held m) q ≡ None
    lower q above less = get-held m q ∙ none_or (btree.get name_cmp m q)
        (λ some. not_less (name_cmp q k) less
        (ap is_gt (sym (name_cmp-total.antisymm k q))
        ∙ subst (λ (es : List (List ℕ × Row)). IfSome (slice_get es 0) (λ e. is_gt (name_cmp e.0 q) ≡ false)) first (range.2 q (from-above after q above, tt) some)))

    pub next-first : IsNextPath (held m) after k
    next-first = record {
      stands = subst IsSome (sym (get-held m k ∙ entry.1)) refl;
      above = above-from after k entry.0.0;
      least = lower;
    }

    pub listed-first : AreBounded m → IsListed after k
    listed-first bounded = record {
      above = above-from after k entry.0.0;
      bound = subst (λ (o : Option Row). IfSome o (λ _. length k ≤ greatest_path_text)) entry.1 (bounded k);
    }
