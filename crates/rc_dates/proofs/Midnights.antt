-- The day number of 1 January 1601.
use Rattle.std.proofs.Common.{◌≡◌, refl, pos, negsuc}
use Rattle.jiff_core.specs.declared.civil.date.Date.{Date}
use Rattle.jiff_core.specs.Calendar.{day_count, days_from_civil, days_of_months, days_of_years}
use Rattle.jiff_core.specs.Date.{epoch_day, IsYmd}
use Rattle.rc_dates.specs.Dates.{first_day}

-- it lies 134774 days before 1 January 1970
pub first_day_is : first_day ≡ negsuc 134773
unfolding first_day days_from_civil day_count days_of_years days_of_months
first_day_is = refl

-- a date with its year, month and day stands on it
pub on_first_day : (date : Date) → IsYmd (pos 1601) (pos 1) (pos 1) date → epoch_day date ≡ first_day
unfolding first_day
on_first_day date ymd =
    let month : date.month ≡ 1 = (let e = ymd.1 in cc) in
    let day : date.day ≡ 1 = (let e = ymd.2 in cc) in
    rw (ymd.0, month, day)
