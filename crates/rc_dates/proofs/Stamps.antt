-- The characters of printed dates and times of day.
use Rattle.std.proofs.Common.{◌≡◌, ℕ, ◌+◌, ◌/◌, ◌%◌, ◌<◌, ◌≤◌, List, [], ◌∷◌, ◌++◌, arith, codes, unsigned_abs, chars, ℤ, pos, negsuc, ◌≤ℤ◌}
use Rattle.std.specs.Str.{IsAscii}
use Rattle.std.proofs.lemmas.Str.{chars-IsAscii, IsAscii-append}
use Rattle.std.proofs.lemmas.Str.Ascii.{IsAscii-cons, IsAscii-nil}
use Rattle.jiff_core.specs.declared.civil.date.Date.{Date}
use Rattle.jiff_core.proofs.SignedLemmas.{signed_arith}
use Rattle.jiff_core.proofs.CalendarLemmas.{days_in_month_bounds}
use Rattle.rc_dates.specs.Dates.{two_digits, date_text, clock_text}

two_ascii : (n : ℕ) → n < 100 → IsAscii (two_digits n)
two_ascii n h =
    IsAscii-cons (48 + n / 10) ((48 + n % 10) ∷ []) (omega arith) (IsAscii-cons (48 + n % 10) [] (omega arith) IsAscii-nil)

mark_ascii : (c : ℕ) → c < 128 → IsAscii (c ∷ [])
mark_ascii c h = IsAscii-cons c [] h IsAscii-nil

-- two texts of ASCII and a mark between them
between_ascii : (front : List ℕ) (c : ℕ) (back : List ℕ) → IsAscii front → c < 128 → IsAscii back → IsAscii (front ++ c ∷ [] ++ back)
between_ascii front c back before mark behind =
    IsAscii-append (front ++ c ∷ []) back (IsAscii-append front (c ∷ []) before (mark_ascii c mark)) behind

date_ascii : (y m d : ℕ) → y ≤ 9999 → m ≤ 12 → d ≤ 31 → IsAscii (two_digits (y / 100) ++ two_digits (y % 100) ++ codes "/" ++ two_digits m ++ codes "/" ++ two_digits d)
date_ascii y m d hy hm hd =
    let year : IsAscii (two_digits (y / 100) ++ two_digits (y % 100)) = IsAscii-append (two_digits (y / 100)) (two_digits (y % 100)) (two_ascii (y / 100) (omega arith)) (two_ascii (y % 100) (omega arith)) in
    between_ascii (two_digits (y / 100) ++ two_digits (y % 100) ++ codes "/" ++ two_digits m) 47 (two_digits d) (between_ascii (two_digits (y / 100) ++ two_digits (y % 100)) 47 (two_digits m) year (omega arith) (two_ascii m (omega arith))) (omega arith) (two_ascii d (omega arith))

clock_ascii : (h m s : ℕ) → h < 24 → m < 60 → s < 60 → IsAscii (two_digits h ++ codes ":" ++ two_digits m ++ codes ":" ++ two_digits s)
clock_ascii h m s hh hm hs =
    between_ascii (two_digits h ++ codes ":" ++ two_digits m) 58 (two_digits s) (between_ascii (two_digits h) 58 (two_digits m) (two_ascii h (omega arith)) (omega arith) (two_ascii m (omega arith))) (omega arith) (two_ascii s (omega arith))

year_bound : (year : ℤ) → negsuc 9998 ≤ℤ year → year ≤ℤ pos 9999 → unsigned_abs year ≤ 9999
year_bound (pos n) low high = omega (arith, signed_arith, low, high)
year_bound (negsuc n) low high = omega (arith, signed_arith, low, high)

-- what is printed of a moment is ASCII, so its bytes are its characters
pub stamp_chars : (d : Date) (second : ℕ) → second < 86400 → chars (date_text d ++ codes " " ++ clock_text second) ≡ date_text d ++ codes " " ++ clock_text second
stamp_chars d second h =
    let days = days_in_month_bounds d.year d.month in
    let year : unsigned_abs d.year ≤ 9999 = year_bound d.year d.year_in.0 d.year_in.1 in
    let month : d.month ≤ 12 = omega (arith, d.month_in) in
    let day : d.day ≤ 31 = omega (arith, d.day_in, days) in
    chars-IsAscii (date_text d ++ codes " " ++ clock_text second) (between_ascii (date_text d) 32 (clock_text second) (date_ascii (unsigned_abs d.year) d.month d.day year month day) (omega arith)
    (clock_ascii (second / 3600) (second / 60 % 60) (second % 60) (omega arith) (omega arith) (omega arith)))
