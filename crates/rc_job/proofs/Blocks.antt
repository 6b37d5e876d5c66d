-- Settings that are written one after the other are known by their lines, where each line that begins one tells which.
use Rattle.std.proofs.Common.{◌≡◌, ℕ, ◌+◌, ◌≤◌, Bool, true, false, not, ◌&&◌, ◌==◌, List, [], ◌∷◌, ◌++◌, length, map, refl, sym, ap, ◌∙◌, subst, if◌then◌else◌, arith}
use Rattle.std.specs.List.{list_all}
use Rattle.std.proofs.lemmas.Bool.{and_parts, and_from, not-true, eq-eqb, ne_eqb}
use Rattle.std.proofs.lemmas.List.Folds.{list_all-append}
use Rattle.rc_job.specs.Settings.{Setting}
use Rattle.rc_job.specs.Values.{Lines, begins_with}
use Rattle.rc_job.proofs.Ends.{is_line, all_lines}
use Rattle.rc_job.proofs.Table.{row, IsHead}

-- a line that begins no setting
abbrev pub is_value : List ℕ → Bool
is_value line = not (begins_with 47 line) && is_line line

-- what is written of the setting of this number: nothing, or a line that tells it and then values
abbrev pub IsBlock : ℕ → Lines → Type 0
IsBlock i [] = Unit {0}
IsBlock i (head ∷ values) = IsHead i head × (list_all is_value values ≡ true)

-- settings, the first of this number
abbrev pub AreBlocks : ℕ → List Setting → Type 0
AreBlocks i [] = Unit {0}
AreBlocks i (s ∷ rest) = IsBlock i s.lines × AreBlocks (i + 1) rest

-- nothing, or lines that begin with a setting of this number or a higher one
abbrev Follows : ℕ → Lines → Type 0
Follows i [] = Unit {0}
Follows i (head ∷ rest) = (i ≤ row head) × (begins_with 47 head ≡ true)

values_in : Lines → Lines
values_in [] = []
values_in (line ∷ rest) = if begins_with 47 line then [] else line ∷ values_in rest

behind_values : Lines → Lines
behind_values [] = []
behind_values (line ∷ rest) = if begins_with 47 line then line ∷ rest else behind_values rest

own : ℕ → Lines → Lines
own i [] = []
own i (head ∷ rest) = if row head == i then head ∷ values_in rest else []

behind : ℕ → Lines → Lines
behind i [] = []
behind i (head ∷ rest) = if row head == i then behind_values rest else head ∷ rest

values_stop : (i : ℕ) (values rest : Lines) → list_all is_value values ≡ true → Follows i rest → (values_in (values ++ rest) ≡ values) × (behind_values (values ++ rest) ≡ rest)
unfolding values_in behind_values
values_stop i [] [] all follows = (refl, refl)
values_stop i [] (head ∷ rest) all follows = (rw follows.1, rw follows.1)
values_stop i (value ∷ values) rest all follows =
    let parts = and_parts (is_value value) (list_all is_value values) all in
    let plain = not-true (begins_with 47 value) (and_parts (not (begins_with 47 value)) (is_line value) parts.0).0 in
    let later = values_stop i values rest parts.1 follows in
    (rw plain (ap (λ (ls : Lines). value ∷ ls) later.0), rw plain later.1)

block_stops : (i : ℕ) (block rest : Lines) → IsBlock i block → Follows (i + 1) rest → (own i (block ++ rest) ≡ block) × (behind i (block ++ rest) ≡ rest)
unfolding own behind
block_stops i [] [] is follows = (refl, refl)
block_stops i [] (head ∷ rest) is follows =
    let other : (row head == i) ≡ false = ne_eqb (row head) i (λ e. omega (arith, e, follows.0)) in
    (rw other, rw other)
block_stops i (head ∷ values) rest is follows =
    let same : (row head == i) ≡ true = eq-eqb (row head) i is.0.0 in
    let stop = values_stop (i + 1) values rest is.1 follows in
    (rw same (ap (λ (ls : Lines). head ∷ ls) stop.0), rw same stop.1)

first_follows : (i : ℕ) (block rest : Lines) → IsBlock i block → Follows (i + 1) rest → Follows i (block ++ rest)
first_follows i [] [] is follows = tt
first_follows i [] (head ∷ rest) is follows = (omega (arith, follows.0), follows.1)
first_follows i (head ∷ values) rest is follows = (omega (arith, is.0.0), is.0.1)

all_follow : (i : ℕ) (settings : List Setting) → AreBlocks i settings → Follows i (all_lines settings)
all_follow i [] are = tt
all_follow i (s ∷ rest) are = first_follows i s.lines (all_lines rest) are.0 (all_follow (i + 1) rest are.1)

-- settings of the same numbers with the same lines in all have the same lines each
pub same_blocks : (i : ℕ) (settings others : List Setting) → length settings ≡ length others → AreBlocks i settings → AreBlocks i others → all_lines settings ≡ all_lines others → map (λ s. s.lines) settings ≡ map (λ s. s.lines) others
same_blocks i [] [] long are also e = refl
same_blocks i [] (t ∷ more) long are also e = absurd (omega (arith, long))
same_blocks i (s ∷ rest) [] long are also e = absurd (omega (arith, long))
same_blocks i (s ∷ rest) (t ∷ more) long are also e =
    let mine = block_stops i s.lines (all_lines rest) are.0 (all_follow (i + 1) rest are.1) in
    let yours = block_stops i t.lines (all_lines more) also.0 (all_follow (i + 1) more also.1) in
    let first : s.lines ≡ t.lines = sym mine.0 ∙ ap (own i) e ∙ yours.0 in
    let later : all_lines rest ≡ all_lines more = sym mine.1 ∙ ap (behind i) e ∙ yours.1 in
    let each = same_blocks (i + 1) rest more (omega (arith, long)) are.1 also.1 later in
    cc (first, each)

block_lines : (i : ℕ) (block : Lines) → IsBlock i block → list_all is_line block ≡ true
block_lines i [] is = refl
block_lines i (head ∷ values) is = and_from (is_line head) (list_all is_line values) is.0.2 (values_lines values is.1)
  where
    values_lines : (values : Lines) → list_all is_value values ≡ true → list_all is_line values ≡ true
    values_lines [] all = refl
    values_lines (value ∷ values) all =
        let parts = and_parts (is_value value) (list_all is_value values) all in
        and_from (is_line value) (list_all is_line values) (and_parts (not (begins_with 47 value)) (is_line value) parts.0).1 (values_lines values parts.1)

pub blocks_lines : (i : ℕ) (settings : List Setting) → AreBlocks i settings → list_all is_line (all_lines settings) ≡ true
blocks_lines i [] are = refl
blocks_lines i (s ∷ rest) are =
    list_all-append is_line s.lines (all_lines rest)
    ∙ and_from (list_all is_line s.lines) (list_all is_line (all_lines rest)) (block_lines i s.lines are.0) (blocks_lines (i + 1) rest are.1)

pub both_blocks : (i j : ℕ) (a b : List Setting) → i + length a ≡ j → AreBlocks i a → AreBlocks j b → AreBlocks i (a ++ b)
both_blocks i j [] b at first second = subst (λ n. AreBlocks n b) (omega (arith, at)) second
both_blocks i j (s ∷ a) b at first second = (first.0, both_blocks (i + 1) j a b (omega (arith, at)) first.1 second)
