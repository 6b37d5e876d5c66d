-- Dates that are written YYYYMMDD, the moments at which they begin, and how dates and times of day are printed.
use Rattle.std.specs.Prelude.{ℕ, ◌*◌, ◌+◌, ◌/◌, ◌%◌, Bool, ◌&&◌, nat_le, List, [], ◌∷◌, ◌++◌, Result, Ok, Err, ℤ, pos, negsuc, ◌-ℤ◌, unsigned_abs, codes, if◌then◌else◌}
use Rattle.jiff_core.specs.declared.civil.date.Date.{Date}
use Rattle.jiff.specs.Words.{days_in_month}
use Rattle.jiff_core.specs.Calendar.{days_from_civil}
use Rattle.rc_dates.specs.declared.ages.DateErr.{DateErr}
use Rattle.rc_dates.specs.declared.ages.DateErr.TheVariants.{NoSuchDate, BeforeStart}

-- the year, month and day of a number YYYYMMDD
abbrev pub year_in : ℕ → ℤ
year_in n = pos (n / 10000)

abbrev pub month_in : ℕ → ℕ
month_in n = n / 100 % 100

abbrev pub day_in : ℕ → ℕ
day_in n = n % 100

-- the calendar has the date that is written so
abbrev pub is_date : ℕ → Bool
is_date n =
    nat_le (n / 10000) 9999 && (nat_le 1 (month_in n) && nat_le (month_in n) 12)
    && (nat_le 1 (day_in n) && nat_le (day_in n) (days_in_month (year_in n) (month_in n)))

-- the day number of 1 January 1601
unfoldable pub first_day : ℤ
first_day = days_from_civil (pos 1601) 1 1

-- the first unit of a day that is counted from 1 January 1601
abbrev pub midnight : ℤ → Result ℕ DateErr
midnight (pos day) = Ok (day * 864000000000)
midnight (negsuc before) = Err BeforeStart

-- the moment at which a date begins that is written YYYYMMDD, or why there is none
unfoldable pub date_moment : ℕ → Result ℕ DateErr
date_moment n =
    if is_date n then midnight (days_from_civil (year_in n) (month_in n) (day_in n) -ℤ first_day)
    else Err NoSuchDate

-- a number below 100 in two digits
abbrev pub two_digits : ℕ → List ℕ
two_digits n = (48 + n / 10) ∷ (48 + n % 10) ∷ []

-- a date from the year 0 on as YYYY/MM/DD
abbrev pub date_text : Date → List ℕ
date_text d =
    two_digits (unsigned_abs d.year / 100) ++ two_digits (unsigned_abs d.year % 100) ++ codes "/" ++ two_digits d.month ++ codes "/" ++ two_digits d.day

-- a second of the day as HH:MM:SS
abbrev pub clock_text : ℕ → List ℕ
clock_text second =
    two_digits (second / 3600) ++ codes ":" ++ two_digits (second / 60 % 60) ++ codes ":" ++ two_digits (second % 60)
