-- How a moment is printed.
use Rattle.std.specs.Prelude.{ℕ, zero, suc, ◌+◌, ◌/◌, ◌%◌, List, ◌++◌, nat_lt, pos, codes, if◌then◌else◌}
use Rattle.jiff.specs.Words.{days_in_month}
use Rattle.rc_dates.specs.Dates.{two_digits, clock_text}
use Rattle.rc_dates.specs.Stamp.{printed_units}

-- a day of the calendar
pub record Day : Type 0 where
  pub year : ℕ
  pub month : ℕ
  pub day : ℕ

-- the day that comes next
abbrev pub next_day : Day → Day
next_day d =
    if nat_lt d.day (days_in_month (pos d.year) d.month)
    then record { year = d.year; month = d.month; day = d.day + 1 }
    else if nat_lt d.month 12 then record { year = d.year; month = d.month + 1; day = 1 }
    else record { year = d.year + 1; month = 1; day = 1 }

-- the day that comes so many days after 1 January 1601
unfoldable pub day_after : ℕ → Day
day_after zero = record { year = 1601; month = 1; day = 1 }
day_after (suc n) = next_day (day_after n)

-- a day as YYYY/MM/DD
abbrev pub day_text : Day → List ℕ
day_text d =
    two_digits (d.year / 100) ++ two_digits (d.year % 100) ++ codes "/" ++ two_digits d.month
    ++ codes "/" ++ two_digits d.day

-- a moment as YYYY/MM/DD HH:MM:SS
unfoldable pub stamp_of : ℕ → List ℕ
stamp_of moment =
    day_text (day_after (printed_units moment / 864000000000)) ++ codes " "
    ++ clock_text (printed_units moment % 864000000000 / 10000000)
