-- What stands behind a switch's colon: letters, numbers, ages, roots and names.
use Rattle.std.specs.Prelude.{ℕ, ◌+◌, ◌-◌, ◌*◌, ◌^◌, Bool, false, not, ◌&&◌, ◌||◌, ◌==◌, nat_lt, nat_le, List, [], ◌∷◌, Option, None, Some, Result, Ok, Err, codes, is_ok, if◌then◌else◌}
use Rattle.std.specs.Char.{to_ascii_uppercase, is_ascii_digit}
use Rattle.std.specs.List.{list_all, list_any}
use Rattle.std.specs.Str.{bytes_eq}
use Rattle.rc_tree.specs.declared.attr.Attr.{Attr}
use Rattle.rc_tree.specs.declared.entry.Scan.{Scan}
use Rattle.rc_tree.specs.declared.entry.Scan.TheVariants as scan
use Rattle.rc_job.specs.declared.flags.CopyFlags.{CopyFlags}
use Rattle.rc_job.specs.declared.flags.DirectoryFlags.{DirectoryFlags}
use Rattle.rc_dates.specs.Dates.{date_moment}

-- Letters, in either case

abbrev pub is_letter_of : List ℕ → ℕ → Bool
is_letter_of letters c = list_any (λ letter. to_ascii_uppercase c == letter) letters

abbrev pub has_letter : ℕ → List ℕ → Bool
has_letter letter cs = list_any (λ c. to_ascii_uppercase c == letter) cs

abbrev pub copy_in : List ℕ → Option CopyFlags
copy_in cs =
    if list_all (is_letter_of (codes "DATSOUX")) cs
    then Some (record {
      data_bytes = has_letter 68 cs;
      attributes = has_letter 65 cs;
      times = has_letter 84 cs;
      security = has_letter 83 cs;
      owner = has_letter 79 cs;
      auditing = has_letter 85 cs;
    })
    else None

abbrev pub directory_in : List ℕ → Option DirectoryFlags
directory_in cs =
    if list_all (is_letter_of (codes "DATEX")) cs
    then Some (record { attributes = has_letter 65 cs; times = has_letter 84 cs })
    else None

abbrev pub attr_in : List ℕ → Option Attr
attr_in cs =
    if list_all (is_letter_of (codes "RASHCNETO")) cs
    then Some (record {
      readonly = has_letter 82 cs;
      hidden = has_letter 72 cs;
      system = has_letter 83 cs;
      archive = has_letter 65 cs;
      temporary = has_letter 84 cs;
      sparse = false;
      compressed = has_letter 67 cs;
      offline = has_letter 79 cs;
      not_indexed = has_letter 78 cs;
      encrypted = has_letter 69 cs;
    })
    else None

-- SIZE or DIGEST, in capitals
abbrev pub scan_in : List ℕ → Option Scan
scan_in cs =
    if bytes_eq cs (codes "SIZE") then Some scan.Size
    else if bytes_eq cs (codes "DIGEST") then Some scan.Digest
    else None

-- Numbers

-- the number that decimal digits write, behind others that wrote n
abbrev pub number_in : ℕ → List ℕ → ℕ
number_in n [] = n
number_in n (c ∷ cs) = number_in (10 * n + (c - 48)) cs

-- a number of a range: kind 3 for what is no digit, kind 4 outside of the range
abbrev pub ranged_in : ℕ → ℕ → List ℕ → Result ℕ ℕ
ranged_in least most cs =
    if not (list_all is_ascii_digit cs) then Err 3
    else if nat_lt (number_in 0 cs) least || nat_lt most (number_in 0 cs) then Err 4
    else Ok (number_in 0 cs)

-- a number of days below 1900, or a date that fits 32 bits: kind 7 for another
abbrev pub is_age : ℕ → Bool
is_age n = nat_lt n 1900 || (if nat_lt n (2 ^ 32) then is_ok (date_moment n) else false)

abbrev pub age_in : List ℕ → Result ℕ ℕ
age_in cs =
    if not (list_all is_ascii_digit cs) then Err 3
    else if is_age (number_in 0 cs) then Ok (number_in 0 cs)
    else Err 7

-- Roots and names of job files

-- neither a quote nor a character below 32
abbrev pub is_of_root : ℕ → Bool
is_of_root c = nat_le 32 c && not (c == 34)

-- not empty, and of such characters
abbrev pub is_root : List ℕ → Bool
is_root [] = false
is_root (c ∷ cs) = list_all is_of_root (c ∷ cs)
