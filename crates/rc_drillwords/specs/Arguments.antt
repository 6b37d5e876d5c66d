-- What one argument of a drill asks for. An argument is the list of its bytes.
use Rattle.std.specs.Prelude.{ℕ, Bool, true, false, ◌&&◌, ◌==◌, nat_lt, nat_le, if◌then◌else◌, List, [], ◌∷◌, length, drop, map, codes, chars, Option, None, Some, option_map}
use Rattle.std.specs.Option.{is_none}
use Rattle.std.specs.Char.{to_ascii_lowercase}
use Rattle.std.specs.List.{position_or_len, before_first, after_first}
use Rattle.std.specs.Str.Parse.{digits_value}
use Rattle.std.specs.Str.{all_ascii_digits, bytes_eq}
use Rattle.rc_tree.specs.Path.{names_in, path_fault}
use Rattle.rc_volume.specs.declared.site.Part.{Part}
use Rattle.rc_volume.specs.declared.site.Part.TheVariants.{Source, Target, Record}
use Rattle.rc_drillwords.specs.declared.reading.FailingCall.{FailingCall}
use Rattle.rc_drillwords.specs.declared.reading.FailingReads.{FailingReads}
use Rattle.rc_drillwords.specs.declared.reading.Reading.{Reading}
use Rattle.rc_drillwords.specs.declared.reading.Reading.TheVariants.{OfRun, Bad, Generate, FailCall, FailReads}

-- Values

abbrev pub is_colon : ℕ → Bool
is_colon b = b == 58

-- what stands in front of the first colon of a text, and what behind it; none without a colon
abbrev pub cut : List ℕ → Option (List ℕ × List ℕ)
cut text = if nat_lt (position_or_len is_colon text) (length text) then Some (before_first is_colon text, after_first is_colon text) else None

abbrev pub last_number : ℕ
last_number = 18446744073709551615

abbrev pub last_times : ℕ
last_times = 4294967295

-- the number that decimal digits write, at least one of them and nothing else, where it is not above the greatest
unfoldable pub number_in : ℕ → List ℕ → Option ℕ
number_in most text = if all_ascii_digits text && (nat_lt 0 (length text) && nat_le (digits_value 10 text) most) then Some (digits_value 10 text) else None

-- the part of a letter, which is a capital one
abbrev pub part_in : List ℕ → Option Part
part_in text =
    if bytes_eq text (codes "S") then Some Source else if bytes_eq text (codes "T") then Some Target
    else if bytes_eq text (codes "R") then Some Record else None

-- names that lead below the root
abbrev pub are_names : List (List ℕ) → Bool
are_names names = is_none (path_fault names) && nat_lt 0 (length names)

-- the names of a path below the root; none of them has a colon
abbrev pub path_in : List ℕ → Option (List (List ℕ))
path_in text = if are_names (names_in (chars text)) then Some (names_in (chars text)) else None

-- Words

abbrev pub call_by : Option Part → Option ℕ → Option FailingCall
call_by (Some part) (Some number) = if number == 0 then None else Some (record { part = part; number = number })
call_by part number = None

-- a call: its part and its number, from 1
abbrev pub call_at : Option (List ℕ × List ℕ) → Option FailingCall
call_at None = None
call_at (Some fields) = call_by (part_in fields.0) (number_in last_number fields.1)

abbrev pub call_in : List ℕ → Option FailingCall
call_in text = call_at (cut text)

abbrev pub reads_by : Option (List (List ℕ)) → Option ℕ → Option FailingReads
reads_by (Some path) (Some times) = Some (record { path = path; times = times })
reads_by path times = None

-- reads: the path of a file, and how many attempts fail
abbrev pub reads_at : Option (List ℕ × List ℕ) → Option FailingReads
reads_at None = None
reads_at (Some fields) = reads_by (path_in fields.0) (number_in last_times fields.1)

abbrev pub reads_in : List ℕ → Option FailingReads
reads_in text = reads_at (cut text)

-- what a value is read as, and a bad word in the place of none
abbrev pub or_bad : {V : Type 0} → (V → Reading) → Option V → Reading
or_bad reading (Some value) = reading value
or_bad reading None = Bad

-- a switch by what stands behind its colon, where it has one
abbrev pub generate_word : Option (List ℕ) → Reading
generate_word None = Bad
generate_word (Some text) = or_bad Generate (number_in last_number text)

abbrev pub call_word : Option (List ℕ) → Reading
call_word None = Bad
call_word (Some text) = or_bad FailCall (call_in text)

abbrev pub reads_word : Option (List ℕ) → Reading
reads_word None = Bad
reads_word (Some text) = or_bad FailReads (reads_in text)

-- the same name, in capital or small letters
abbrev pub is_named : List ℕ → List ℕ → Bool
is_named wanted name = bytes_eq (map to_ascii_lowercase name) (map to_ascii_lowercase wanted)

abbrev pub reading_by : List ℕ → Option (List ℕ) → Reading
reading_by name value =
    if is_named (codes "GEN") name then generate_word value
    else if is_named (codes "FAIL") name then call_word value
    else if is_named (codes "FAILREAD") name then reads_word value
    else if is_named (codes "STOP") name then Bad
    else OfRun

-- by what stands behind the `/`: its name goes up to the first colon
abbrev pub switch_at : List ℕ → Option (List ℕ × List ℕ) → Reading
switch_at word None = reading_by word None
switch_at word (Some fields) = reading_by fields.0 (Some fields.1)

-- what an argument asks for: one that does not begin with `/`, or has another name, is the run's
unfoldable pub reading_of : List ℕ → Reading
reading_of [] = OfRun
reading_of (b ∷ word) = if b == 47 then switch_at word (cut word) else OfRun
