-- Pauses of one call, and of several behind one another.
use Rattle.std.proofs.Common.{◌≡◌, ◌≤◌, ℕ, zero, suc, ◌+◌, refl, sym, ap, ◌∙◌, arith}
use Rattle.rc_volume.specs.declared.site.Part.{Part}
use Rattle.rc_volume.specs.declared.site.Part.TheVariants as part
use Rattle.rc_volume.specs.declared.site.Side.{Side}
use Rattle.rc_volume.specs.declared.site.Side.TheVariants as side
use Rattle.rc_volume.specs.Faults.{Cause, Counts, RoseBy, on, part_for}
use Rattle.rc_volume.specs.Waits.{Paused, Waits, last_fault, paused_by, paused_once}

same_times : (seconds : ℕ) (m n : ℕ) (p : Paused) → m ≡ n → paused_by seconds m p ≡ paused_by seconds n p
same_times seconds m n p is = ap (λ (times : ℕ). paused_by seconds times p) is

-- so many pauses, and so many behind them
pub paused_then : (seconds m n : ℕ) (p : Paused) → paused_by seconds n (paused_by seconds m p) ≡ paused_by seconds (m + n) p
paused_then seconds m zero p = same_times seconds m (m + 0) p (omega arith)
paused_then seconds m (suc n) p = ap (paused_once seconds) (paused_then seconds m n p) ∙ same_times seconds (suc (m + n)) (m + suc n) p (omega arith)

-- so many pauses on one side, and none on the other
abbrev pub on_side : Side → ℕ → Side → ℕ
on_side side.Source n side.Source = n
on_side side.Target n side.Target = n
on_side one n other = 0

pub sum_on_side : (at : Side) (n : ℕ) → on_side at n side.Source + on_side at n side.Target ≡ n
sum_on_side side.Source n = omega arith
sum_on_side side.Target n = omega arith

-- no pause, where the counts are as this answer says
pub waits_never : (seconds : ℕ) (cause : Cause) (before after : Part → ℕ) (p : Paused) → ((part : Part) → RoseBy (last_fault cause part) (before part) (after part)) → Waits seconds cause before after p p
waits_never seconds cause before after p rose = record {
  times = λ side. 0;
  failed = λ side. omega (arith, rose (part_for side));
  is = refl;
}

-- the pauses of one call, and those of others behind it; the call was not in vain
pub waits_then : (seconds : ℕ) (first second : Cause) (before mid after : Part → ℕ) (p q r : Paused) → ((part : Part) → last_fault first part ≡ 0) → Waits seconds first before mid p q → Waits seconds second mid after q r → Waits seconds second before after p r
waits_then seconds first second before mid after p q r none one two = record {
  times = λ side. one.times side + two.times side;
  failed = λ side. omega (arith, none (part_for side), one.failed side, two.failed side);
  is = two.is ∙ ap (paused_by seconds (sum two)) one.is ∙ paused_then seconds (sum one) (sum two) p ∙ same_times seconds (sum one + sum two) _ p (omega arith);
}
  where
    sum : {cause : Cause} {a b : Part → ℕ} {o n : Paused} → Waits seconds cause a b o n → ℕ
    sum waits = waits.times side.Source + waits.times side.Target

-- the pauses of a call that was tried again so often on one side
pub waits_on : (seconds : ℕ) (at : Side) (n : ℕ) (cause : Cause) (before after : Part → ℕ) (p q : Paused) → q ≡ paused_by seconds n p → ((side : Side) → RoseBy (on_side at n side + last_fault cause (part_for side)) (before (part_for side)) (after (part_for side))) → Waits seconds cause before after p q
waits_on seconds at n cause before after p q is rose = record {
  times = on_side at n;
  failed = rose;
  is = is ∙ same_times seconds n _ p (sym (sum_on_side at n));
}

-- it ended without a failure
pub waits_ended : (seconds : ℕ) (at : Side) (n : ℕ) (cause : Cause) (before mid after : Part → ℕ) (p q : Paused) → ((part : Part) → last_fault cause part ≡ 0) → q ≡ paused_by seconds n p → Counts (on (part_for at) n) before mid → ((part : Part) → mid part ≤ after part) → Waits seconds cause before after p q
waits_ended seconds at n cause before mid after p q none is rose grows = waits_on seconds at n cause before after p q is (by at rose)
  where
    by : (at : Side) → Counts (on (part_for at) n) before mid → (side : Side) → RoseBy (on_side at n side + last_fault cause (part_for side)) (before (part_for side)) (after (part_for side))
    by side.Source rose side.Source = omega (arith, rose.0, grows part.Source, none part.Source)
    by side.Source rose side.Target = omega (arith, rose.1 part.Target, grows part.Target, none part.Target)
    by side.Target rose side.Source = omega (arith, rose.1 part.Source, grows part.Source, none part.Source)
    by side.Target rose side.Target = omega (arith, rose.0, grows part.Target, none part.Target)

-- it failed once more, and that was the last time
pub waits_failed : (seconds : ℕ) (at : Side) (n k : ℕ) (before mid after : Part → ℕ) (p q : Paused) → q ≡ paused_by seconds n p → Counts (on (part_for at) n) before mid → Counts (on (part_for at) 1) mid after → Waits seconds (on (part_for at) k) before after p q
waits_failed seconds at n k before mid after p q is rose once = waits_on seconds at n (on (part_for at) k) before after p q is (by at rose once)
  where
    by : (at : Side) → Counts (on (part_for at) n) before mid → Counts (on (part_for at) 1) mid after → (side : Side) → RoseBy (on_side at n side + last_fault (on (part_for at) k) (part_for side)) (before (part_for side)) (after (part_for side))
    by side.Source rose once side.Source = omega (arith, rose.0, once.0)
    by side.Source rose once side.Target = omega (arith, rose.1 part.Target, once.1 part.Target)
    by side.Target rose once side.Source = omega (arith, rose.1 part.Source, once.1 part.Source)
    by side.Target rose once side.Target = omega (arith, rose.0, once.0)
