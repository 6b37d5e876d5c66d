-- A place among places that rise.
use Rattle.std.proofs.Common.{◌≡◌, ℕ, ◌+◌, ◌-◌, ◌<◌, ◌≤◌, ◌==◌, true, false, List, length, get_or, inl, inr, sym, subst, arith}
use Rattle.std.proofs.lemmas.Bool.{cases_lt, eq-eqb, ne_eqb}
use Rattle.std.proofs.lemmas.List.Elements.{All-from_get_or}
use Rattle.std.proofs.lemmas.List.Folds.{list_any_at, list_any_none}
use Rattle.rc_class.specs.declared.rules.GivenUp.{GivenUp}
use Rattle.rc_report.specs.Given.{is_named, none, IsRising}

-- the place of the one with a number
abbrev pub item_at : List GivenUp → ℕ → ℕ
item_at failed k = (get_or failed k none).item

pub named : (failed : List GivenUp) (place k : ℕ) → k < length failed → item_at failed k ≡ place → true ≡ is_named failed place
named failed place k l e = sym (list_any_at (λ (g : GivenUp). g.item == place) failed k none l (eq-eqb (item_at failed k) place e))

-- one that is neither below nor above is none
pub not_named : (failed : List GivenUp) (place low high : ℕ) → high ≤ low → ((k : ℕ) → k < low → item_at failed k < place) → ((k : ℕ) → high ≤ k → k < length failed → place < item_at failed k) → false ≡ is_named failed place
not_named failed place low high met before behind =
    sym (list_any_none (λ (g : GivenUp). g.item == place) failed (All-from_get_or (λ (g : GivenUp). (g.item == place) ≡ false) failed none (λ k l. ne_eqb (item_at failed k) place (λ e. elim (cases_lt k low) [
      | inl front ↦ let lt = before k front in omega arith
      | inr back ↦ let gt = behind k (omega arith) l in omega arith
    ]))))

pub low_more : (failed : List GivenUp) (place middle : ℕ) → IsRising failed → middle < length failed → item_at failed middle < place → (k : ℕ) → k < middle + 1 → item_at failed k < place
low_more failed place middle rising l here k front =
    elim (cases_lt k middle) [
      | inl before ↦ let lt = rising k middle before l in omega arith
      | inr after ↦ let e : middle ≡ k = omega arith in subst (λ (n : ℕ). item_at failed n < place) e here
    ]

pub high_less : (failed : List GivenUp) (place middle : ℕ) → IsRising failed → place < item_at failed middle → (k : ℕ) → middle ≤ k → k < length failed → place < item_at failed k
high_less failed place middle rising here k back l =
    elim (cases_lt middle k) [
      | inl behind ↦ let lt = rising middle k behind l in omega arith
      | inr before ↦ let e : middle ≡ k = omega arith in subst (λ (n : ℕ). place < item_at failed n) e here
    ]

-- one more place that is above the one before it
pub rising_more : (failed : List GivenUp) (next : ℕ) → 1 ≤ next → ((k n : ℕ) → k < n → n < next → item_at failed k < item_at failed n) → item_at failed (next - 1) < item_at failed next → (k n : ℕ) → k < n → n < next + 1 → item_at failed k < item_at failed n
rising_more failed next low before here k n lt front =
    elim (cases_lt n next) [
      | inl early ↦ before k n lt early
      | inr late ↦ let e : next ≡ n = omega arith in subst (λ (m : ℕ). item_at failed k < item_at failed m) e (elim (cases_lt k (next - 1)) [
        | inl l ↦ let a = before k (next - 1) l (omega arith) in omega arith
        | inr g ↦ let f : next - 1 ≡ k = omega arith in subst (λ (m : ℕ). item_at failed m < item_at failed next) f here
      ])
    ]
