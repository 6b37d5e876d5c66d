-- Words of a job file that are read as settings, one after the other.
use Rattle.std.proofs.Common.{◌≡◌, ◌⊎◌, inl, inr, ℕ, ◌+◌, ◌≤◌, ◌<◌, Bool, true, false, not, ◌&&◌, ◌||◌, ◌==◌, List, [], ◌∷◌, ◌++◌, map, Option, Some, None, Result, Ok, Err, refl, sym, ap, ◌∙◌, if◌then◌else◌, arith}
use Rattle.std.specs.Prelude.{is_none}
use Rattle.std.proofs.lemmas.Bool.{ne_eqb, or_from}
use Rattle.rc_job.specs.Values.{holds_space, begins_apart}
use Rattle.rc_words.specs.Meaning.{given, given_again, goes_on, is_list, is_loose, is_number, list_before, list_of, listed_meaning, meaning, meanings, once, other_meaning, placed, placed_from, raw_meaning, reading_meaning, root_number, root_of, single_by, single_of, single_reading, some_setting, spelled, switch_meaning}
use Rattle.rc_words.specs.Spelling.{Reading, Plain, Bare, Behind, Spelled, is_switch}
use Rattle.rc_words.specs.declared.setting.Placed.{Placed}
use Rattle.rc_words.specs.declared.setting.Setting.{Setting}
use Rattle.rc_words.specs.declared.setting.Word.{Word}
use Rattle.rc_words.specs.declared.setting.WordsErr.{WordsErr}
use Rattle.rc_words.specs.declared.table.Value.{Value}
use Rattle.rc_jobfiles.proofs.Lexed.{is_value, slash, value_word}

-- Words behind others are read as these settings

pub record Reads (all before words : List Word) (place : ℕ) (settings : List Setting) : Type 0 where
  pub placed_are : List Placed
  pub read : placed_from place (meanings true all before words) ≡ Ok placed_are
  pub settings_are : map (λ p. p.setting) placed_are ≡ settings

pub nothing_read : (all before : List Word) (place : ℕ) → Reads all before [] place []
nothing_read all before place = record { placed_are = []; read = refl; settings_are = refl }

setting_read : (all before after : List Word) (w : Word) (place : ℕ) (s : Setting) (ss : List Setting) → meaning true all w before after ≡ Ok (Some s) → Reads all (w ∷ before) after (place + 1) ss → Reads all before (w ∷ after) place (s ∷ ss)
setting_read all before after w place s ss e later = record {
  placed_are = record { place = place; setting = s } ∷ later.placed_are;
  read =
      ap (λ m. placed_from place (m ∷ meanings true all (w ∷ before) after)) e
      ∙ ap (λ (r : Result (List Placed) WordsErr). placed place (Some s) r) later.read;
  settings_are = ap (λ (xs : List Setting). s ∷ xs) later.settings_are;
}

none_read : (all before after : List Word) (w : Word) (place : ℕ) (ss : List Setting) → meaning true all w before after ≡ Ok None → Reads all (w ∷ before) after (place + 1) ss → Reads all before (w ∷ after) place ss
none_read all before after w place ss e later = record {
  placed_are = later.placed_are;
  read =
      ap (λ m. placed_from place (m ∷ meanings true all (w ∷ before) after)) e
      ∙ later.read;
  settings_are = later.settings_are;
}

-- Single settings from a number on that no word before gave

abbrev pub Unused : List Word → List Word → ℕ → Type 0
Unused all before k = (m : ℕ) → k ≤ m → given true all m before ≡ false

pub unused_later : (all before : List Word) (k next : ℕ) → k ≤ next → Unused all before k → Unused all before next
unused_later all before k next le unused m h = unused m (omega (arith, le, h))

-- A switch

-- it gives no single setting, or that of its number
abbrev pub IsOwn : Spelled → Type 0
IsOwn s = (single_by (Some s) ≡ None) ⊎ (single_by (Some s) ≡ Some s.number)

not_again : (all before : List Word) (s : Spelled) (k : ℕ) → IsOwn s → k ≤ s.number → Unused all before k → given_again true all (single_by (Some s)) before ≡ false
not_again all before s k (inl e) low unused = ap (λ (o : Option ℕ). given_again true all o before) e
not_again all before s k (inr e) low unused = ap (λ (o : Option ℕ). given_again true all o before) e ∙ unused s.number low

switch_is : (all before after : List Word) (cs : List ℕ) (s : Spelled) (k : ℕ) (made : Option Setting) → spelled true (slash cs) ≡ Some s → IsOwn s → k ≤ s.number → Unused all before k → switch_meaning true after (Some s) ≡ Ok made → meaning true all (slash cs) before after ≡ Ok made
switch_is all before after cs s k made e own low unused is =
    ap (λ (o : Option Spelled). once (given_again true all (single_by o) before) (switch_meaning true after o)) e
    ∙ ap (λ r. once (given_again true all (single_by (Some s)) before) r) is
    ∙ ap (λ (again : Bool). once again (Ok made)) (not_again all before s k own low unused)

is_other : (s : Spelled) (m : ℕ) → IsOwn s → s.number < m → is_number m (single_by (Some s)) ≡ false
is_other s m (inl e) below = ap (λ (o : Option ℕ). is_number m o) e
is_other s m (inr e) below = ap (λ (o : Option ℕ). is_number m o) e ∙ ne_eqb s.number m (λ h. omega (arith, below, h))

unused_behind : (all before : List Word) (cs : List ℕ) (s : Spelled) (k next : ℕ) → spelled true (slash cs) ≡ Some s → IsOwn s → k ≤ next → s.number < next → Unused all before k → Unused all (slash cs ∷ before) next
unused_behind all before cs s k next e own le below unused m h =
    or_from (is_number m (single_of true all (slash cs) before)) (given true all m before)
    (ap (λ (o : Option Spelled). is_number m (single_by o)) e ∙ is_other s m own (omega (arith, below, h)))
    (unused m (omega (arith, le, h)))

-- Words that are read as these settings, whatever else stands before and behind them: single settings before them have
-- numbers below the first bound, and those behind them have numbers from the second one on
abbrev pub WordsMean : ℕ → ℕ → List Word → List Setting → Type 0
WordsMean k next words settings =
    (all before after : List Word) (place : ℕ) (rest : List Setting) → Unused all before k
    → ((behind : List Word) (at : ℕ) → Unused all behind next → Reads all behind after at rest)
    → Reads all before (words ++ after) place (settings ++ rest)

pub no_words : (k next : ℕ) → k ≤ next → WordsMean k next [] []
no_words k next le all before after place rest unused go = go before place (unused_later all before k next le unused)

pub switch_means : (k next : ℕ) (cs : List ℕ) (s : Spelled) (made : Setting) → spelled true (slash cs) ≡ Some s → IsOwn s → k ≤ s.number → s.number < next → ((after : List Word) → switch_meaning true after (Some s) ≡ Ok (Some made)) → WordsMean k next (slash cs ∷ []) (made ∷ [])
switch_means k next cs s made e own low below is all before after place rest unused go =
    setting_read all before after (slash cs) place made rest (switch_is all before after cs s k (Some made) e own low unused (is after))
    (go (slash cs ∷ before) (place + 1) (unused_behind all before cs s k next e own (omega (arith, low, below)) below unused))

-- A value of a list

no_single : (loose : Bool) → ◌≡◌ {A = Option ℕ} (if loose then None else None) None
no_single true = refl
no_single false = refl

value_single : (all before : List Word) (value : List ℕ) → single_of true all (value_word value) before ≡ None
value_single all before value =
    ap (λ (is : Bool). if is then single_by (spelled true (value_word value)) else (if is_loose true (value_word value) before then None else None)) (is_value value)
    ∙ no_single (is_loose true (value_word value) before)

value_is : (all before after : List Word) (value : List ℕ) (list : Value) (made : Setting) → list_before true before ≡ Some list → listed_meaning list value ≡ Ok made → meaning true all (value_word value) before after ≡ Ok (Some made)
value_is all before after value list made listed is =
    ap (λ (o : Option ℕ). once (given_again true all o before) (raw_meaning true all (value_word value) before after)) (value_single all before value)
    ∙ ap (λ r. once false r)
    (ap (λ (is : Bool). if is then switch_meaning true after (spelled true (value_word value)) else some_setting (other_meaning (list_before true before) None value)) (is_value value)
    ∙ ap (λ (o : Option Value). some_setting (other_meaning o None value)) listed
    ∙ ap (λ r. some_setting r) is)

list_goes_on : (before : List Word) (value : List ℕ) (list : Value) → list_before true before ≡ Some list → list_before true (value_word value ∷ before) ≡ Some list
list_goes_on before value list listed =
    ap (λ (is : Bool). if is then list_of (spelled true (value_word value)) else list_before true before) (is_value value) ∙ listed

unused_value : (all before : List Word) (value : List ℕ) (k : ℕ) → Unused all before k → Unused all (value_word value ∷ before) k
unused_value all before value k unused m h =
    or_from (is_number m (single_of true all (value_word value) before)) (given true all m before)
    (ap (λ (o : Option ℕ). is_number m o) (value_single all before value)) (unused m h)

module _ {A : Type 0} (text : A → List ℕ) (make : A → Setting) (list : Value) where
  -- each value is read as its setting
  abbrev pub AreMade : List A → Type 0
  AreMade [] = Unit {0}
  AreMade (v ∷ vs) = (listed_meaning list (text v) ≡ Ok (make v)) × AreMade vs

  values_mean : (all before after : List Word) (place next : ℕ) (rest : List Setting) (values : List A) → AreMade values → list_before true before ≡ Some list → Unused all before next → ((behind : List Word) (at : ℕ) → Unused all behind next → Reads all behind after at rest) → Reads all before (map (λ v. value_word (text v)) values ++ after) place (map make values ++ rest)
  values_mean all before after place next rest [] are listed unused go = go before place unused
  values_mean all before after place next rest (v ∷ vs) are listed unused go =
      setting_read all before (map (λ v. value_word (text v)) vs ++ after) (value_word (text v)) place (make v) (map make vs ++ rest)
      (value_is all before (map (λ v. value_word (text v)) vs ++ after) (text v) list (make v) listed are.0)
      (values_mean all (value_word (text v) ∷ before) after (place + 1) next rest vs are.1 (list_goes_on before (text v) list listed) (unused_value all before (text v) next unused) go)

  -- a list: its switch, and its values
  pub list_means : (k next : ℕ) (cs : List ℕ) (s : Spelled) (values : List A) → spelled true (slash cs) ≡ Some s → IsOwn s → k ≤ s.number → s.number < next → ((after : List Word) → switch_meaning true after (Some s) ≡ Ok None) → list_of (Some s) ≡ Some list → AreMade values → WordsMean k next (slash cs ∷ map (λ v. value_word (text v)) values) (map make values)
  list_means k next cs s values e own low below is begins are all before after place rest unused go =
      none_read all before (map (λ v. value_word (text v)) values ++ after) (slash cs) place (map make values ++ rest)
      (switch_is all before (map (λ v. value_word (text v)) values ++ after) cs s k None e own low unused (is (map (λ v. value_word (text v)) values ++ after)))
      (values_mean all (slash cs ∷ before) after (place + 1) next rest values are
      (ap (λ (o : Option Spelled). list_of o) e ∙ begins)
      (unused_behind all before cs s k next e own (omega (arith, low, below)) below unused) go)
