-- What a reader keeps of the words before one, and what it makes of that word.
use Rattle.std.specs.Prelude.{◌≡◌, ℕ, ◌+◌, ◌<◌, Bool, true, false, not, ◌&&◌, List, Option, None, Some, Result, is_none, length, min, replicate, slice_set, if◌then◌else◌}
use Rattle.std.specs.List.{slice_index_or}
use Rattle.rc_words.specs.declared.read.Reader.{Reader}
use Rattle.rc_words.specs.declared.setting.Setting.{Setting}
use Rattle.rc_words.specs.declared.setting.Word.{Word}
use Rattle.rc_words.specs.declared.table.Value.{Value}
use Rattle.rc_words.specs.declared.values.Fault.{Fault}
use Rattle.rc_words.specs.Meaning.{spelled, list_of, list_before, loose_before, stands, root_at, root_number, single_by, given, some_setting, switch_meaning, other_meaning, once}
use Rattle.rc_words.specs.Spelling.{Spelled, is_switch}

abbrev pub fresh : Bool → List Word → Reader
fresh in_file all = record {
  in_file = in_file;
  no_source = stands in_file 2 all;
  no_target = stands in_file 3 all;
  list = None;
  loose = 0;
  given = replicate 72 false;
}

abbrev pub spelled_by : Reader → Word → Option Spelled
spelled_by r word = if is_switch word then spelled r.in_file word else None

abbrev pub root_by : Reader → Option Value
root_by r = if r.in_file then None else root_at r.no_source r.no_target r.loose

abbrev pub single_from : Reader → Word → Option Spelled → Option ℕ
single_from r word s =
    if is_switch word then single_by s else if is_none r.list then root_number (root_by r) else None

abbrev pub raw_by : Reader → Word → Option Spelled → List Word → Result (Option Setting) Fault
raw_by r word s after =
    if is_switch word then switch_meaning r.in_file after s
    else some_setting (other_meaning r.list (root_by r) word.text)

abbrev pub again_by : List Bool → Option ℕ → Bool
again_by before None = false
again_by before (Some n) = slice_index_or before n false

abbrev pub read_by : Reader → Word → Option Spelled → List Word → Result (Option Setting) Fault
read_by r word s after = once (again_by r.given (single_from r word s)) (raw_by r word s after)

abbrev pub given_by : List Bool → Option ℕ → List Bool
given_by before None = before
given_by before (Some n) = slice_set before n true

abbrev pub passed : Reader → Word → Option Spelled → Reader
passed r word s = record {
  in_file = r.in_file;
  no_source = r.no_source;
  no_target = r.no_target;
  list = (if is_switch word then list_of s else r.list);
  loose = (if not (is_switch word) && is_none r.list then min 2 (r.loose + 1) else r.loose);
  given = given_by r.given (single_from r word s);
}

-- numbers are those of the table
abbrev pub Below : Option ℕ → Type 0
Below None = Unit {0}
Below (Some n) = n < 72

abbrev pub NumberFits : Option Spelled → Type 0
NumberFits None = Unit {0}
NumberFits (Some s) = s.number < 72

-- a reader knows what the words before one, the last one first, decide of it
pub record Knows (in_file : Bool) (all before : List Word) (r : Reader) : Type 0 where
  pub in_file_is : r.in_file ≡ in_file
  pub no_source_is : r.no_source ≡ stands in_file 2 all
  pub no_target_is : r.no_target ≡ stands in_file 3 all
  pub list_is : r.list ≡ list_before in_file before
  pub loose_is : r.loose ≡ min 2 (loose_before in_file before)
  pub room : length r.given ≡ 72
  pub given_is : (n : ℕ) → n < 72 → slice_index_or r.given n false ≡ given in_file all n before
