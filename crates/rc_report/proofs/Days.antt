-- The day of the calendar on which a moment lies.
use Rattle.std.proofs.Common.{◌≡◌, ℕ, zero, suc, ◌+◌, ◌/◌, ◌<◌, ◌≤◌, inl, inr, refl, sym, ap, ◌∙◌, arith, rules, pos, ◌+ℤ◌, List, ltb}
use Rattle.std.proofs.lemmas.Bool.{cases_lt, cond_both, ltb-true, ltb-false}
use Rattle.jiff_core.specs.declared.civil.date.Date.{Date}
use Rattle.jiff_core.specs.Calendar.{days_from_civil, days_in_month, IsCivilDate}
use Rattle.jiff_core.specs.Date.{epoch_day}
use Rattle.jiff_core.proofs.SignedLemmas.{signed_arith}
use Rattle.jiff_core.proofs.CalendarLemmas.{days_from_civil-day_count, day_count-lt_year, days_in_month_bounds}
use Rattle.jiff_core.proofs.DateLemmas.{days_from_civil-day, days_from_civil-next_month, days_from_civil-next_year, days_from_civil-max, epoch_day_injective}
use Rattle.rc_dates.specs.Dates.{first_day}
use Rattle.rc_dates.specs.Stamp.{printed_units, IsMomentText}
use Rattle.rc_dates.proofs.Midnights.{first_day_is}
use Rattle.rc_report.specs.Stamps.{Day, day_after, next_day, stamp_of}

-- a day of the calendar, so many days after 1 January 1601
pub record IsDay (n : ℕ) (d : Day) : Type 0 where
  pub late : 1601 ≤ d.year
  pub month_low : 1 ≤ d.month
  pub month_high : d.month ≤ 12
  pub day_low : 1 ≤ d.day
  pub day_high : d.day ≤ days_in_month (pos d.year) d.month
  pub number : days_from_civil (pos d.year) d.month d.day ≡ first_day +ℤ pos n

same_month : (n : ℕ) (d : Day) → IsDay n d → d.day < days_in_month (pos d.year) d.month → IsDay (suc n) (record { year = d.year; month = d.month; day = d.day + 1 })
same_month n d is within =
    let moved = days_from_civil-day (pos d.year) d.month d.day (d.day + 1) is.day_low (omega arith) in
    let number = is.number in
    record {
      late = is.late;
      month_low = is.month_low;
      month_high = is.month_high;
      day_low = omega arith;
      day_high = omega arith;
      number = omega (arith, signed_arith, moved, number);
    }

next_month : (n : ℕ) (d : Day) → IsDay n d → days_in_month (pos d.year) d.month ≤ d.day → d.month < 12 → IsDay (suc n) (record { year = d.year; month = d.month + 1; day = 1 })
next_month n d is last early =
    let high = is.day_high in
    let moved = days_from_civil-next_month (pos d.year) d.month d.day is.month_low (omega arith) in
    let number = is.number in
    let long = days_in_month_bounds (pos d.year) (d.month + 1) in
    record {
      late = is.late;
      month_low = omega arith;
      month_high = omega arith;
      day_low = omega arith;
      day_high = omega arith;
      number = omega (arith, signed_arith, moved, number);
    }

next_year : (n : ℕ) (d : Day) → IsDay n d → days_in_month (pos d.year) d.month ≤ d.day → 12 ≤ d.month → IsDay (suc n) (record { year = d.year + 1; month = 1; day = 1 })
next_year n d is last december =
    let low = is.month_high in
    let high = is.day_high in
    let month : d.month ≡ 12 = omega arith in
    let length_is : days_in_month (pos d.year) d.month ≡ 31 = ap (days_in_month (pos d.year)) month in
    let day : d.day ≡ 31 = omega arith in
    let moved = days_from_civil-next_year (pos d.year) (pos (d.year + 1)) (omega (arith, signed_arith)) (omega (arith, signed_arith)) in
    let number : days_from_civil (pos d.year) 12 31 ≡ first_day +ℤ pos n =
    sym (ap (λ (m : ℕ). days_from_civil (pos d.year) m d.day) month ∙ ap (days_from_civil (pos d.year) 12) day) ∙ is.number in
    let long = days_in_month_bounds (pos (d.year + 1)) 1 in
    let late = is.late in
    record {
      late = omega arith;
      month_low = omega arith;
      month_high = omega arith;
      day_low = omega arith;
      day_high = omega arith;
      number = omega (arith, signed_arith, moved, number);
    }

next_is : (n : ℕ) (d : Day) → IsDay n d → IsDay (suc n) (next_day d)
next_is n d is =
    cond_both (ltb d.day (days_in_month (pos d.year) d.month)) _ _ (IsDay (suc n)) (λ e. same_month n d is (ltb-true d.day (days_in_month (pos d.year) d.month) e))
    (λ e. cond_both (ltb d.month 12) _ _ (IsDay (suc n)) (λ f. next_month n d is (ltb-false d.day (days_in_month (pos d.year) d.month) e) (ltb-true d.month 12 f))
    (λ f. next_year n d is (ltb-false d.day (days_in_month (pos d.year) d.month) e) (ltb-false d.month 12 f)))

first_is : days_from_civil (pos 1601) 1 1 ≡ first_day
unfolding first_day
first_is = refl

-- the first day, and from each day the next one
day_is : (n : ℕ) → IsDay n (day_after n)
unfolding day_after
day_is zero =
    record {
      late = omega arith;
      month_low = omega arith;
      month_high = omega arith;
      day_low = omega arith;
      day_high = omega arith;
      number = omega (arith, signed_arith, first_is);
    }
day_is (suc n) = next_is n (day_after n) (day_is n)

last_civil : IsCivilDate (pos 9999) 12 31
last_civil = (search rules, search rules, search rules)

-- no moment lies behind the year 9999
year_high : (n : ℕ) (d : Day) → IsDay n d → n < 3067671 → d.year ≤ 9999
year_high n d is small =
    elim (cases_lt 9999 d.year) [
      | inr within ↦ within
      | inl beyond ↦ absurd (omega (arith, signed_arith, first_day_is, is.number, days_from_civil-max, days_from_civil-day_count (pos 9999) 12 31, days_from_civil-day_count (pos d.year) d.month d.day, day_count-lt_year (pos 9999) 12 31 (pos d.year) d.month d.day last_civil is.day_low (omega (arith, signed_arith))))
    ]

date_of : (n : ℕ) (d : Day) → IsDay n d → d.year ≤ 9999 → (date : Date) × (date.year ≡ pos d.year) × (date.month ≡ d.month) × (date.day ≡ d.day) × (epoch_day date ≡ first_day +ℤ pos n)
date_of n d is high =
    let date : Date = record {
      year = pos d.year;
      month = d.month;
      day = d.day;
      year_in = (omega (arith, signed_arith), omega (arith, signed_arith));
      month_in = (is.month_low, is.month_high);
      day_in = (is.day_low, is.day_high);
    } in
    (date, refl, refl, refl, is.number)

-- what names the day and the second of a moment is its text
pub stamp_is : (moment : ℕ) (text : List ℕ) → IsMomentText moment text → text ≡ stamp_of moment
unfolding stamp_of
stamp_is moment text is =
    let n = printed_units moment / 864000000000 in
    let small : n < 3067671 = omega arith in
    let there = date_of n (day_after n) (day_is n) (year_high n (day_after n) (day_is n) small) in
    let same = epoch_day_injective is.date there.0 (is.on_day ∙ sym there.4) in
    let year = same.0 ∙ there.1 in
    let month = same.1 ∙ there.2 in
    let day = same.2 ∙ there.3 in
    is.written ∙ rw (year, month, day)
