-- What a reader keeps is what the words before decide.
use Rattle.std.proofs.Common.{◌≡◌, ◌≢◌, ℕ, ◌+◌, ◌<◌, ◌≤◌, zero, suc, Bool, true, false, not, ◌&&◌, ◌||◌, ◌==◌, if◌then◌else◌, List, [], ◌∷◌, Option, None, Some, Result, is_none, min, length, drop, refl, sym, ap, ◌∙◌, arith, inl, inr}
use Rattle.std.specs.Prelude.{slice_set}
use Rattle.std.specs.List.{slice_index_or}
use Rattle.std.proofs.lemmas.Bool.{ne_eqb, eq-eqb, cases_order}
use Rattle.std.proofs.lemmas.List.{get_or-replicate, get_or-set_same, get_or-set_other}
use Rattle.std.proofs.Math.ListN.{length-set}
use Rattle.rc_words.specs.declared.read.Reader.{Reader}
use Rattle.rc_words.specs.declared.setting.Setting.{Setting}
use Rattle.rc_words.specs.declared.setting.Word.{Word}
use Rattle.rc_words.specs.declared.table.Value.{Value}
use Rattle.rc_words.specs.declared.table.Value.TheVariants as value
use Rattle.rc_words.specs.declared.values.Fault.{Fault}
use Rattle.rc_words.specs.Meaning.{known, spelled, list_of, list_before, loose_before, stands, root_at, root_of, root_number, single_by, single_reading, single_of, is_loose, is_number, given, given_again, some_setting, switch_meaning, other_meaning, raw_meaning, meaning, once}
use Rattle.rc_words.specs.Spelling.{Reading, Behind, Spelled, is_switch, reading_of, spelled_or, spelled_among}
use Rattle.rc_words.specs.Table.{Named}
use Rattle.rc_words.specs.Reader.{Knows, Below, NumberFits, fresh, spelled_by, root_by, single_from, raw_by, again_by, read_by, given_by, passed}

-- two or more loose words are alike
root_at_many : (ns nt : Bool) (n : ℕ) → root_at ns nt 2 ≡ root_at ns nt (suc (suc n))
root_at_many true nt n = rw (ne_eqb (suc (suc n)) 0 (λ h. omega (arith, h))) refl
root_at_many false nt n = rw (ne_eqb (suc (suc n)) 0 (λ h. omega (arith, h)), ne_eqb (suc (suc n)) 1 (λ h. omega (arith, h))) refl

root_at_two : (ns nt : Bool) (n : ℕ) → root_at ns nt (min 2 n) ≡ root_at ns nt n
root_at_two ns nt zero = refl
root_at_two ns nt (suc zero) = refl
root_at_two ns nt (suc (suc n)) =
    let two : min 2 (suc (suc n)) ≡ 2 = omega arith in
    rw two (root_at_many ns nt n)

knows_root : (in_file : Bool) (all before : List Word) (r : Reader) → Knows in_file all before r → root_by r ≡ root_of in_file all before
knows_root in_file all before r k =
    rw (k.in_file_is, k.no_source_is, k.no_target_is, k.loose_is, root_at_two (stands in_file 2 all) (stands in_file 3 all) (loose_before in_file before)) refl

single_cases : (b c : Bool) (s : Option Spelled) (x : Option ℕ) → (if b then single_by (if b then s else None) else if c then x else None) ≡ (if b then single_by s else if not b && c then x else None)
single_cases true c s x = refl
single_cases false c s x = refl

knows_single : (in_file : Bool) (all before : List Word) (r : Reader) (word : Word) → Knows in_file all before r → single_from r word (spelled_by r word) ≡ single_of in_file all word before
knows_single in_file all before r word k =
    rw (knows_root in_file all before r k, k.in_file_is, k.list_is)
    (single_cases (is_switch word) (is_none (list_before in_file before)) (spelled in_file word) (root_number (root_of in_file all before)))

raw_cases : (b in_file : Bool) (after : List Word) (s : Option Spelled) (x : Result (Option Setting) Fault) → (if b then switch_meaning in_file after (if b then s else None) else x) ≡ (if b then switch_meaning in_file after s else x)
raw_cases true in_file after s x = refl
raw_cases false in_file after s x = refl

knows_raw : (in_file : Bool) (all before after : List Word) (r : Reader) (word : Word) → Knows in_file all before r → raw_by r word (spelled_by r word) after ≡ raw_meaning in_file all word before after
knows_raw in_file all before after r word k =
    rw (knows_root in_file all before r k, k.in_file_is, k.list_is)
    (raw_cases (is_switch word) in_file after (spelled in_file word) (some_setting (other_meaning (list_before in_file before) (root_of in_file all before) word.text)))

-- Numbers of single settings

below_reading : (n : ℕ) (v : Value) (reading : Reading) → n < 72 → Below (single_reading n v reading)
below_reading n value.JobFile reading h = tt
below_reading n other (Behind cs) h = h
below_reading n other reading h = tt

below_root : (v : Option Value) → Below (root_number v)
below_root None = tt
below_root (Some value.Source) = omega arith
below_root (Some value.Target) = omega arith
below_root (Some other) = tt

below_spelled : (s : Option Spelled) → NumberFits s → Below (single_by s)
below_spelled None fits = tt
below_spelled (Some s) fits = below_reading s.number s.value s.reading fits

below_choice : (b c : Bool) (x y : Option ℕ) → Below x → Below y → Below (if b then x else if c then y else None)
below_choice true c x y hx hy = hx
below_choice false true x y hx hy = hy
below_choice false false x y hx hy = tt

pub below_single : (r : Reader) (word : Word) (s : Option Spelled) → NumberFits s → Below (single_from r word s)
below_single r word s fits =
    below_choice (is_switch word) (is_none r.list) (single_by s) (root_number (root_by r)) (below_spelled s fits) (below_root (root_by r))

again_is : (in_file : Bool) (all before : List Word) (g : List Bool) (m : Option ℕ) → ((n : ℕ) → n < 72 → slice_index_or g n false ≡ given in_file all n before) → Below m → again_by g m ≡ given_again in_file all m before
again_is in_file all before g None is below = refl
again_is in_file all before g (Some n) is below = is n below

-- Numbers that words spell

or_fits : (n : ℕ) (value : Value) (reading : Option Reading) (later : Option Spelled) → n < 72 → NumberFits later → NumberFits (spelled_or n value reading later)
or_fits n value None later h fits = fits
or_fits n value (Some reading) later h fits = h

among_fits : (n : ℕ) (switches : List Named) (cs : List ℕ) → n + length switches ≤ 72 → NumberFits (spelled_among n switches cs)
among_fits n [] cs h = tt
among_fits n (switch ∷ switches) cs h =
    or_fits n switch.value (reading_of switch cs) (spelled_among (n + 1) switches cs) (omega arith)
    (among_fits (n + 1) switches cs (omega arith))

known_fits : (in_file : Bool) → length (known in_file) ≤ 72
known_fits true = omega arith
known_fits false = omega arith

word_fits : (in_file : Bool) (word : Word) → NumberFits (spelled in_file word)
unfolding spelled
word_fits in_file word = among_fits 0 (known in_file) (drop 1 word.text) (omega (arith, known_fits in_file))

switch_fits : (b : Bool) (s : Option Spelled) → NumberFits s → NumberFits (if b then s else None)
switch_fits true s fits = fits
switch_fits false s fits = tt

pub fits : (r : Reader) (word : Word) → NumberFits (spelled_by r word)
fits r word = switch_fits (is_switch word) (spelled r.in_file word) (word_fits r.in_file word)

pub knows_read : (in_file : Bool) (all before after : List Word) (r : Reader) (word : Word) → Knows in_file all before r → read_by r word (spelled_by r word) after ≡ meaning in_file all word before after
knows_read in_file all before after r word k =
    let again : again_by r.given (single_from r word (spelled_by r word)) ≡ given_again in_file all (single_of in_file all word before) before =
    again_is in_file all before r.given (single_from r word (spelled_by r word)) k.given_is (below_single r word (spelled_by r word) (fits r word))
    ∙ ap (λ (m : Option ℕ). given_again in_file all m before) (knows_single in_file all before r word k) in
    ap (λ (b : Bool). once b (raw_by r word (spelled_by r word) after)) again
    ∙ ap (λ (x : Result (Option Setting) Fault). once (given_again in_file all (single_of in_file all word before) before) x) (knows_raw in_file all before after r word k)

-- One word more

list_cases : (b : Bool) (s : Option Spelled) (x : Option Value) → (if b then list_of (if b then s else None) else x) ≡ (if b then list_of s else x)
list_cases true s x = refl
list_cases false s x = refl

loose_cases : (c : Bool) (n : ℕ) → (if c then min 2 (min 2 n + 1) else min 2 n) ≡ min 2 (n + (if c then 1 else 0))
loose_cases true n = omega arith
loose_cases false n = omega arith

given_cases : (in_file : Bool) (all before : List Word) (g : List Bool) (m : Option ℕ) (n : ℕ) → length g ≡ 72 → ((k : ℕ) → k < 72 → slice_index_or g k false ≡ given in_file all k before) → Below m → n < 72 → slice_index_or (given_by g m) n false ≡ (is_number n m || given in_file all n before)
given_cases in_file all before g None n room is below h = is n h
given_cases in_file all before g (Some q) n room is below h =
    let x = given in_file all n before in
    let other : n ≢ q → slice_index_or (slice_set g q true) n false ≡ (q == n || x) =
    λ apart. get_or-set_other g q n true false apart ∙ is n h ∙ sym (ap (λ (b : Bool). b || x) (ne_eqb q n (λ e. apart (sym e)))) in
    elim (cases_order n q) [
      | inl e ↦ ap (λ (k : ℕ). slice_index_or (slice_set g q true) k false) e ∙ get_or-set_same g q true false (omega (arith, below, room)) ∙ sym (ap (λ (b : Bool). b || x) (eq-eqb q n (sym e)))
      | inr (inl lt) ↦ other (λ e. omega (arith, lt, e))
      | inr (inr gt) ↦ other (λ e. omega (arith, gt, e))
    ]

given_room : (g : List Bool) (m : Option ℕ) → length g ≡ 72 → length (given_by g m) ≡ 72
given_room g None room = room
given_room g (Some n) room = length-set g n true ∙ room

pub knows_pass : (in_file : Bool) (all before : List Word) (r : Reader) (word : Word) → Knows in_file all before r → Knows in_file all (word ∷ before) (passed r word (spelled_by r word))
knows_pass in_file all before r word k = record {
  in_file_is = k.in_file_is;
  no_source_is = k.no_source_is;
  no_target_is = k.no_target_is;
  list_is = rw (k.in_file_is, k.list_is) (list_cases (is_switch word) (spelled in_file word) (list_before in_file before));
  loose_is = rw (k.loose_is, k.list_is) (loose_cases (is_loose in_file word before) (loose_before in_file before));
  room = given_room r.given (single_from r word (spelled_by r word)) k.room;
  given_is = λ n h.
      given_cases in_file all before r.given (single_from r word (spelled_by r word)) n k.room k.given_is (below_single r word (spelled_by r word) (fits r word)) h
      ∙ ap (λ (m : Option ℕ). is_number n m || given in_file all n before) (knows_single in_file all before r word k);
}

pub knows_fresh : (in_file : Bool) (all : List Word) → Knows in_file all [] (fresh in_file all)
knows_fresh in_file all = record {
  in_file_is = refl;
  no_source_is = refl;
  no_target_is = refl;
  list_is = refl;
  loose_is = refl;
  room = refl;
  given_is = λ n h. get_or-replicate 72 n false false h;
}
