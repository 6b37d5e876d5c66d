-- How a moment is printed.
use Rattle.std.specs.Prelude.{◌≡◌, ℕ, ◌/◌, ◌%◌, List, ◌++◌, min, pos, ◌+ℤ◌, codes}
use Rattle.jiff_core.specs.declared.civil.date.Date.{Date}
use Rattle.jiff.specs.Words.{epoch_day}
use Rattle.rc_dates.specs.Dates.{first_day, date_text, clock_text}

-- the units that are printed: those of the greatest moment where there are more
abbrev pub printed_units : ℕ → ℕ
printed_units moment = min moment 2650467743999999999

-- a text names the calendar day that a moment lies in, and the second of that day
pub record IsMomentText (moment : ℕ) (text : List ℕ) : Type 0 where
  pub date : Date
  pub on_day : epoch_day date ≡ first_day +ℤ pos (printed_units moment / 864000000000)
  pub written : text ≡ date_text date ++ codes " " ++ clock_text (printed_units moment % 864000000000 / 10000000)
