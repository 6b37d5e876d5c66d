-- The switches of the canonical text, as the switch table has them.
use Rattle.std.proofs.Common.{◌≡◌, ℕ, true, List, ◌++◌, Some, codes, refl}
use Rattle.std.specs.List.{list_all}
use Rattle.rc_words.specs.Meaning.{spelled}
use Rattle.rc_words.specs.Spelling.{Plain, Behind, Spelled}
use Rattle.rc_words.specs.declared.table.Value.{Value}
use Rattle.rc_words.specs.declared.table.Value.TheVariants as value
use Rattle.rc_jobfiles.proofs.Lexed.{is_solid, slash}

abbrev pub plain : ℕ → Value → Spelled
plain n v = record { number = n; value = v; reading = Plain }

abbrev pub behind : ℕ → Value → List ℕ → Spelled
behind n v cs = record { number = n; value = v; reading = Behind cs }

-- a switch by its name alone
abbrev pub IsPlain : ℕ → Value → List ℕ → Type 0
IsPlain n v cs = (spelled true (slash cs) ≡ Some (plain n v)) × (list_all is_solid cs ≡ true)

abbrev pub IsSwitch : ℕ → List ℕ → Type 0
IsSwitch n cs = IsPlain n value.Nothing cs

-- one with its value behind a colon
abbrev pub IsColon : ℕ → Value → List ℕ → Type 0
IsColon n v cs = ((tail : List ℕ) → spelled true (slash (cs ++ tail)) ≡ Some (behind n v tail)) × (list_all is_solid cs ≡ true)

pub root_names : IsColon 0 value.Source (codes "SD:") × IsColon 1 value.Target (codes "DD:")
unfolding spelled
root_names = ((λ tail. refl, refl), (λ tail. refl, refl))

pub missing_names : IsSwitch 2 (codes "NOSD") × IsSwitch 3 (codes "NODD")
unfolding spelled
missing_names = ((refl, refl), (refl, refl))

pub tree_names : IsPlain 4 value.Files (codes "IF") × IsSwitch 5 (codes "S") × IsSwitch 6 (codes "E") × IsColon 7 (value.Number 1 65535) (codes "LEV:") × IsSwitch 8 (codes "PURGE") × IsSwitch 10 (codes "MOV") × IsSwitch 11 (codes "MOVE") × IsSwitch 12 (codes "CREATE")
unfolding spelled
tree_names = ((refl, refl), (refl, refl), (refl, refl), (λ tail. refl, refl), (refl, refl), (refl, refl), (refl, refl), (refl, refl))

pub copied_names : IsColon 13 value.Copy (codes "COPY:") × IsSwitch 16 (codes "NOCOPY") × IsColon 17 value.Directory (codes "DCOPY:") × IsSwitch 18 (codes "NODCOPY") × IsSwitch 19 (codes "SECFIX") × IsSwitch 20 (codes "TIMFIX")
unfolding spelled
copied_names = ((λ tail. refl, refl), (refl, refl), (λ tail. refl, refl), (refl, refl), (refl, refl), (refl, refl))

pub changed_names : IsColon 21 value.Changed (codes "A+:") × IsColon 22 value.Changed (codes "A-:")
unfolding spelled
changed_names = ((λ tail. refl, refl), (λ tail. refl, refl))

pub filter_names : IsSwitch 23 (codes "A") × IsSwitch 24 (codes "M") × IsColon 25 value.Asked (codes "IA:") × IsColon 26 value.Asked (codes "XA:")
unfolding spelled
filter_names = ((refl, refl), (refl, refl), (λ tail. refl, refl), (λ tail. refl, refl))

pub exclude_names : IsPlain 27 value.ExcludeFiles (codes "XF") × IsPlain 28 value.ExcludeDirs (codes "XD")
unfolding spelled
exclude_names = ((refl, refl), (refl, refl))

pub class_names : IsSwitch 29 (codes "XC") × IsSwitch 30 (codes "XN") × IsSwitch 31 (codes "XO") × IsSwitch 32 (codes "XL") × IsSwitch 33 (codes "XX") × IsSwitch 34 (codes "IS") × IsSwitch 35 (codes "IT")
unfolding spelled
class_names = ((refl, refl), (refl, refl), (refl, refl), (refl, refl), (refl, refl), (refl, refl), (refl, refl))

pub bound_names : IsColon 36 (value.Number 0 18446744073709551615) (codes "MAX:") × IsColon 37 (value.Number 0 18446744073709551615) (codes "MIN:") × IsColon 38 value.Age (codes "MAXAGE:") × IsColon 39 value.Age (codes "MINAGE:") × IsSwitch 40 (codes "FFT") × IsSwitch 41 (codes "DST") × IsSwitch 42 (codes "X")
unfolding spelled
bound_names = ((λ tail. refl, refl), (λ tail. refl, refl), (λ tail. refl, refl), (λ tail. refl, refl), (refl, refl), (refl, refl), (refl, refl))

pub run_names : IsSwitch 43 (codes "Z") × IsColon 46 (value.Number 1 128) (codes "MT:") × IsColon 47 (value.Number 0 1000000000) (codes "R:") × IsColon 48 (value.Number 0 1000000000) (codes "W:") × IsSwitch 49 (codes "L")
unfolding spelled
run_names = ((refl, refl), (λ tail. refl, refl), (λ tail. refl, refl), (λ tail. refl, refl), (refl, refl))

pub shown_names : IsSwitch 50 (codes "V") × IsSwitch 51 (codes "NFL") × IsSwitch 52 (codes "NDL") × IsSwitch 53 (codes "NC") × IsSwitch 54 (codes "NS")
unfolding spelled
shown_names = ((refl, refl), (refl, refl), (refl, refl), (refl, refl), (refl, refl))

pub layout_names : IsSwitch 55 (codes "NJH") × IsSwitch 56 (codes "NJS") × IsSwitch 57 (codes "BYTES") × IsSwitch 58 (codes "FP") × IsSwitch 59 (codes "TS") × IsColon 60 value.Scan (codes "SCAN:")
unfolding spelled
layout_names = ((refl, refl), (refl, refl), (refl, refl), (refl, refl), (refl, refl), (λ tail. refl, refl))

-- the word that names a job file
pub job_name : IsColon 68 value.JobFile (codes "JOB:")
unfolding spelled
job_name = (λ tail. refl, refl)
