-- The switches that begin the lines of settings, told apart.
use Rattle.std.proofs.Common.{◌≡◌, ℕ, suc, true, ◌==◌, List, [], ◌∷◌, ◌++◌, codes, bytes_eq, refl, if◌then◌else◌}
use Rattle.std.specs.List.{list_any}
use Rattle.rc_job.specs.Values.{Lines, begins_with}
use Rattle.rc_job.proofs.Ends.{is_line}

-- a line without its value
abbrev switch_of : List ℕ → List ℕ
switch_of [] = []
switch_of (c ∷ cs) = if c == 58 then [] else c ∷ switch_of cs

abbrev row_in : List Lines → List ℕ → ℕ
row_in [] switch = 0
row_in (names ∷ rows) switch = if list_any (λ name. bytes_eq name switch) names then 0 else suc (row_in rows switch)

abbrev rows : List Lines
rows =
    (codes "/SD" ∷ []) ∷ (codes "/DD" ∷ []) ∷ (codes "/NOSD" ∷ []) ∷ (codes "/NODD" ∷ [])
    ∷ (codes "/IF" ∷ []) ∷ (codes "/S" ∷ codes "/E" ∷ []) ∷ (codes "/LEV" ∷ []) ∷ (codes "/PURGE" ∷ [])
    ∷ (codes "/MOV" ∷ codes "/MOVE" ∷ []) ∷ (codes "/CREATE" ∷ []) ∷ (codes "/COPY" ∷ codes "/NOCOPY" ∷ [])
    ∷ (codes "/DCOPY" ∷ codes "/NODCOPY" ∷ []) ∷ (codes "/SECFIX" ∷ []) ∷ (codes "/TIMFIX" ∷ [])
    ∷ (codes "/A+" ∷ []) ∷ (codes "/A-" ∷ []) ∷ (codes "/A" ∷ []) ∷ (codes "/M" ∷ []) ∷ (codes "/IA" ∷ []) ∷ (codes "/XA" ∷ [])
    ∷ (codes "/XF" ∷ []) ∷ (codes "/XD" ∷ []) ∷ (codes "/XC" ∷ []) ∷ (codes "/XN" ∷ []) ∷ (codes "/XO" ∷ [])
    ∷ (codes "/XL" ∷ []) ∷ (codes "/XX" ∷ []) ∷ (codes "/IS" ∷ []) ∷ (codes "/IT" ∷ []) ∷ (codes "/MAX" ∷ [])
    ∷ (codes "/MIN" ∷ []) ∷ (codes "/MAXAGE" ∷ []) ∷ (codes "/MINAGE" ∷ []) ∷ (codes "/FFT" ∷ []) ∷ (codes "/DST" ∷ [])
    ∷ (codes "/X" ∷ []) ∷ (codes "/Z" ∷ []) ∷ (codes "/MT" ∷ []) ∷ (codes "/R" ∷ []) ∷ (codes "/W" ∷ []) ∷ (codes "/L" ∷ [])
    ∷ (codes "/V" ∷ []) ∷ (codes "/NFL" ∷ []) ∷ (codes "/NDL" ∷ []) ∷ (codes "/NC" ∷ []) ∷ (codes "/NS" ∷ [])
    ∷ (codes "/NJH" ∷ []) ∷ (codes "/NJS" ∷ []) ∷ (codes "/BYTES" ∷ []) ∷ (codes "/FP" ∷ []) ∷ (codes "/TS" ∷ [])
    ∷ (codes "/SCAN" ∷ []) ∷ []

-- the number, from 0, of the setting that a line begins
pub row : List ℕ → ℕ
row line = row_in rows (switch_of line)

-- a line that begins the setting of this number
abbrev pub IsHead : ℕ → List ℕ → Type 0
IsHead i line = (row line ≡ i) × (begins_with 47 line ≡ true) × (is_line line ≡ true)

-- a switch whose line has a value behind it
abbrev pub IsValued : ℕ → List ℕ → Type 0
IsValued i name = ((value : List ℕ) → row (name ++ value) ≡ i) × ((value : List ℕ) → begins_with 47 (name ++ value) ≡ true) × (is_line name ≡ true)

pub root_names : IsValued 0 (codes "/SD:") × IsValued 1 (codes "/DD:")
unfolding row
root_names = ((λ _. refl, λ _. refl, refl), (λ _. refl, λ _. refl, refl))

pub missing_names : IsHead 2 (codes "/NOSD") × IsHead 3 (codes "/NODD")
unfolding row
missing_names = ((refl, refl, refl), (refl, refl, refl))

pub tree_names : IsHead 4 (codes "/IF") × IsHead 5 (codes "/S") × IsHead 5 (codes "/E") × IsValued 6 (codes "/LEV:") × IsHead 7 (codes "/PURGE") × IsHead 8 (codes "/MOV") × IsHead 8 (codes "/MOVE") × IsHead 9 (codes "/CREATE")
unfolding row
tree_names = ((refl, refl, refl), (refl, refl, refl), (refl, refl, refl), (λ _. refl, λ _. refl, refl), (refl, refl, refl), (refl, refl, refl), (refl, refl, refl), (refl, refl, refl))

pub copied_names : IsValued 10 (codes "/COPY:") × IsHead 10 (codes "/NOCOPY") × IsValued 11 (codes "/DCOPY:") × IsHead 11 (codes "/NODCOPY") × IsHead 12 (codes "/SECFIX") × IsHead 13 (codes "/TIMFIX")
unfolding row
copied_names = ((λ _. refl, λ _. refl, refl), (refl, refl, refl), (λ _. refl, λ _. refl, refl), (refl, refl, refl), (refl, refl, refl), (refl, refl, refl))

pub changed_names : IsValued 14 (codes "/A+:") × IsValued 15 (codes "/A-:")
unfolding row
changed_names = ((λ _. refl, λ _. refl, refl), (λ _. refl, λ _. refl, refl))

pub filter_names : IsHead 16 (codes "/A") × IsHead 17 (codes "/M") × IsValued 18 (codes "/IA:") × IsValued 19 (codes "/XA:")
unfolding row
filter_names = ((refl, refl, refl), (refl, refl, refl), (λ _. refl, λ _. refl, refl), (λ _. refl, λ _. refl, refl))

pub exclude_names : IsHead 20 (codes "/XF") × IsHead 21 (codes "/XD")
unfolding row
exclude_names = ((refl, refl, refl), (refl, refl, refl))

pub class_names : IsHead 22 (codes "/XC") × IsHead 23 (codes "/XN") × IsHead 24 (codes "/XO") × IsHead 25 (codes "/XL") × IsHead 26 (codes "/XX") × IsHead 27 (codes "/IS") × IsHead 28 (codes "/IT")
unfolding row
class_names = ((refl, refl, refl), (refl, refl, refl), (refl, refl, refl), (refl, refl, refl), (refl, refl, refl), (refl, refl, refl), (refl, refl, refl))

pub bound_names : IsValued 29 (codes "/MAX:") × IsValued 30 (codes "/MIN:") × IsValued 31 (codes "/MAXAGE:") × IsValued 32 (codes "/MINAGE:") × IsHead 33 (codes "/FFT") × IsHead 34 (codes "/DST") × IsHead 35 (codes "/X")
unfolding row
bound_names = ((λ _. refl, λ _. refl, refl), (λ _. refl, λ _. refl, refl), (λ _. refl, λ _. refl, refl), (λ _. refl, λ _. refl, refl), (refl, refl, refl), (refl, refl, refl), (refl, refl, refl))

pub run_names : IsHead 36 (codes "/Z") × IsValued 37 (codes "/MT:") × IsValued 38 (codes "/R:") × IsValued 39 (codes "/W:") × IsHead 40 (codes "/L")
unfolding row
run_names = ((refl, refl, refl), (λ _. refl, λ _. refl, refl), (λ _. refl, λ _. refl, refl), (λ _. refl, λ _. refl, refl), (refl, refl, refl))

pub shown_names : IsHead 41 (codes "/V") × IsHead 42 (codes "/NFL") × IsHead 43 (codes "/NDL") × IsHead 44 (codes "/NC") × IsHead 45 (codes "/NS")
unfolding row
shown_names = ((refl, refl, refl), (refl, refl, refl), (refl, refl, refl), (refl, refl, refl), (refl, refl, refl))

pub layout_names : IsHead 46 (codes "/NJH") × IsHead 47 (codes "/NJS") × IsHead 48 (codes "/BYTES") × IsHead 49 (codes "/FP") × IsHead 50 (codes "/TS") × IsHead 51 (codes "/SCAN:DIGEST")
unfolding row
layout_names = ((refl, refl, refl), (refl, refl, refl), (refl, refl, refl), (refl, refl, refl), (refl, refl, refl), (refl, refl, refl))
