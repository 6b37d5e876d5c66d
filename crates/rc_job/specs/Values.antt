-- How the values of settings are written in the canonical text of a job.
use Rattle.std.specs.Prelude.{ℕ, Bool, false, not, ◌&&◌, ◌||◌, ◌==◌, List, [], ◌∷◌, ◌++◌, Option, None, Some, map, codes, decimal, if◌then◌else◌}
use Rattle.std.specs.List.{list_any}
use Rattle.rc_tree.specs.declared.attr.Attr.{Attr}
use Rattle.rc_tree.specs.Attr.{compared}
use Rattle.rc_job.specs.declared.flags.CopyFlags.{CopyFlags}
use Rattle.rc_job.specs.declared.flags.DirectoryFlags.{DirectoryFlags}
use Rattle.rc_job.specs.declared.lists.Exclude.{Exclude}
use Rattle.rc_job.specs.declared.lists.Exclude.TheVariants as exclude

-- Lines are lists of characters without their line ends

abbrev pub Lines : Type 0
Lines = List (List ℕ)

-- the switch of a setting that is on
abbrev pub switch_lines : List ℕ → Bool → Lines
switch_lines name on = if on then name ∷ [] else []

-- a number behind its switch, where there is one
abbrev pub number_lines : List ℕ → Option ℕ → Lines
number_lines name None = []
number_lines name (Some n) = (name ++ decimal n) ∷ []

-- a number behind its switch, where it is not the default
abbrev pub other_number_lines : List ℕ → ℕ → ℕ → Lines
other_number_lines name default n = if n == default then [] else (name ++ decimal n) ∷ []

-- Quotes

abbrev pub in_quotes : List ℕ → List ℕ
in_quotes value = codes "\"" ++ value ++ codes "\""

abbrev pub holds_space : List ℕ → Bool
holds_space value = list_any (λ c. c == 32) value

abbrev pub begins_with : ℕ → List ℕ → Bool
begins_with c [] = false
begins_with c (d ∷ ds) = d == c

-- begins with `/`, as a switch, or with `::`, as a comment
abbrev pub begins_apart : List ℕ → Bool
begins_apart [] = false
begins_apart (c ∷ cs) = c == 47 || (c == 58 && begins_with 58 cs)

-- a root, in quotes where it holds a space
abbrev pub quoted_root : List ℕ → List ℕ
quoted_root value = if holds_space value then in_quotes value else value

-- a value of a list, in quotes also where it would be read as a switch or a comment
abbrev pub value_text : List ℕ → List ℕ
value_text value = if holds_space value || begins_apart value then in_quotes value else value

abbrev pub root_lines : List ℕ → Option (List ℕ) → Lines
root_lines name None = []
root_lines name (Some root) = (name ++ quoted_root root) ∷ []

-- Lists: their switch, and each value on a line of its own

abbrev pub files_lines : List ℕ → Lines → Lines
files_lines name patterns = name ∷ map value_text patterns

-- a value of /XF or /XD as it was read
abbrev pub exclude_text : Exclude → List ℕ
exclude_text (exclude.Name pattern) = pattern
exclude_text (exclude.Path pattern) = pattern

abbrev pub excludes_lines : List ℕ → List Exclude → Lines
excludes_lines name [] = []
excludes_lines name (value ∷ values) = name ∷ map (λ v. value_text (exclude_text v)) (value ∷ values)

-- Letters, in the order in which they are listed for their switch

abbrev pub letter_where : ℕ → Bool → List ℕ
letter_where c on = if on then c ∷ [] else []

-- D, A, T, S, O, U
abbrev pub copy_flag_letters : CopyFlags → List ℕ
copy_flag_letters f =
    letter_where 68 f.data_bytes ++ letter_where 65 f.attributes ++ letter_where 84 f.times ++ letter_where 83 f.security ++ letter_where 79 f.owner ++ letter_where 85 f.auditing

-- A, T
abbrev pub directory_letters : DirectoryFlags → List ℕ
directory_letters f = letter_where 65 f.attributes ++ letter_where 84 f.times

-- R, A, S, H, C, N, E, T, O
abbrev pub attr_letters : Attr → List ℕ
attr_letters a =
    letter_where 82 a.readonly ++ letter_where 65 a.archive ++ letter_where 83 a.system ++ letter_where 72 a.hidden ++ letter_where 67 a.compressed
    ++ letter_where 78 a.not_indexed ++ letter_where 69 a.encrypted ++ letter_where 84 a.temporary ++ letter_where 79 a.offline

abbrev pub is_dat : CopyFlags → Bool
is_dat f = f.data_bytes && f.attributes && f.times && not f.security && not f.owner && not f.auditing

abbrev pub is_attributes_alone : DirectoryFlags → Bool
is_attributes_alone f = f.attributes && not f.times

-- letters behind their switch, or, where there are none, these lines
abbrev pub letters_lines : List ℕ → Lines → List ℕ → Lines
letters_lines name without [] = without
letters_lines name without (c ∷ cs) = (name ++ c ∷ cs) ∷ []

abbrev pub copy_lines : CopyFlags → Lines
copy_lines f = if is_dat f then [] else letters_lines (codes "/COPY:") (codes "/NOCOPY" ∷ []) (copy_flag_letters f)

abbrev pub directory_lines : DirectoryFlags → Lines
directory_lines f =
    if is_attributes_alone f then []
    else letters_lines (codes "/DCOPY:") (codes "/NODCOPY" ∷ []) (directory_letters f)

abbrev pub attr_lines : List ℕ → Attr → Lines
attr_lines name a = letters_lines name [] (attr_letters a)

-- the same for letters of which only those that are compared have an effect
abbrev pub changed_lines : List ℕ → Attr → Lines
changed_lines name a = attr_lines name (compared a)
