-- The settings that are read so far, and what the words that are left give.
use Rattle.std.proofs.Common.{◌≡◌, ◌⊎◌, inl, inr, ℕ, ◌+◌, ◌-◌, ◌≤◌, List, [], ◌∷◌, ◌++◌, length, get_or, take, drop, Option, None, Some, Result, Ok, Err, refl, sym, ap, subst, ◌∙◌, append_assoc, arith, Bool}
use Rattle.std.proofs.lemmas.List.{append-nil, take_rest}
use Rattle.rc_words.specs.declared.read.Reader.{Reader}
use Rattle.rc_words.specs.declared.setting.Placed.{Placed}
use Rattle.rc_words.specs.declared.setting.Setting.{Setting}
use Rattle.rc_words.specs.declared.setting.Word.{Word}
use Rattle.rc_words.specs.declared.setting.WordsErr.{WordsErr}
use Rattle.rc_words.specs.declared.setting.WordsErr.TheVariants as words
use Rattle.rc_words.specs.declared.values.Fault.{Fault}
use Rattle.rc_words.specs.declared.values.Fault.TheVariants as fault
use Rattle.rc_words.specs.Meaning.{words_of, meanings, placed, placed_from, usage_at}
use Rattle.rc_words.specs.Reader.{Knows, fresh, passed, read_by, spelled_by}
use Rattle.rc_words.proofs.Knowing.{knows_fresh, knows_pass, knows_read}

-- settings before those of a reading
abbrev pub behind : List Placed → Result (List Placed) WordsErr → Result (List Placed) WordsErr
behind before (Ok later) = Ok (before ++ later)
behind before (Err e) = Err e

-- the words before the rest gave these settings, up to a place, and a reader knows them
pub record IsRead (in_file : Bool) (all : List Word) (reader : Reader) (settings : List Placed) (place : ℕ) (rest : List Word) : Type 0 where
  pub before : List Word
  pub knows : Knows in_file all before reader
  pub whole : words_of in_file all ≡ behind settings (placed_from (place + 1) (meanings in_file all before rest))
  pub counted : place + length rest ≡ length all

behind_none : (later : Result (List Placed) WordsErr) → later ≡ behind [] later
behind_none (Ok later) = refl
behind_none (Err e) = refl

behind_one : (before : List Placed) (place : ℕ) (made : Setting) (later : Result (List Placed) WordsErr) → behind before (placed place (Some made) later) ≡ behind (before ++ record { place = place; setting = made } ∷ []) later
behind_one before place made (Ok later) = ap (λ (ps : List Placed). Ok ps) (sym (append_assoc before (record { place = place; setting = made } ∷ []) later))
behind_one before place made (Err e) = refl

pub begin_reading : (in_file : Bool) (all : List Word) (reader : Reader) (settings : List Placed) → reader ≡ fresh in_file all → settings ≡ [] → IsRead in_file all reader settings 0 all
unfolding words_of
begin_reading in_file all reader settings is_fresh is_empty = record {
  before = [];
  knows = subst (λ (r : Reader). Knows in_file all [] r) (sym is_fresh) (knows_fresh in_file all);
  whole = subst (λ (ps : List Placed). words_of in_file all ≡ behind ps (placed_from 1 (meanings in_file all [] all))) (sym is_empty) (behind_none (placed_from 1 (meanings in_file all [] all)));
  counted = omega arith;
}

-- the next word, and those behind it
pub next_word : (rest : List Word) (word : Word) → 1 ≤ length rest → word ≡ get_or rest 0 word → rest ≡ word ∷ take (length rest - 1) (drop 1 rest)
next_word [] word h e = absurd (omega (arith, h))
next_word (first ∷ rest) word h e =
    ap (λ (w : Word). w ∷ rest) (sym e)
    ∙ ap (λ (r : List Word). word ∷ r) (sym (take_rest (first ∷ rest) 1))

-- want of memory apart, an answer is the one that is due
made_of : (x y : Result (Option Setting) Fault) (v : Option Setting) → x ≡ Ok v → (x ≡ y) ⊎ (x ≡ Err fault.NoMemory) → y ≡ Ok v
made_of x y v is (inl e) = sym e ∙ is
made_of x y v is (inr e) = cc

-- what the reader makes of the next word is what it means
means : (in_file : Bool) (all : List Word) (reader : Reader) (settings : List Placed) (place : ℕ) (rest : List Word) (word : Word) (after : List Word) (is : IsRead in_file all reader settings place rest) → rest ≡ word ∷ after → (x : Result (Option Setting) Fault) → read_by reader word (spelled_by reader word) after ≡ x → words_of in_file all ≡ behind settings (placed_from (place + 1) (x ∷ meanings in_file all (word ∷ is.before) after))
means in_file all reader settings place rest word after is e x read =
    is.whole
    ∙ ap (λ (r : List Word). behind settings (placed_from (place + 1) (meanings in_file all is.before r))) e
    ∙ ap (λ (y : Result (Option Setting) Fault). behind settings (placed_from (place + 1) (y ∷ meanings in_file all (word ∷ is.before) after)))
    (sym (knows_read in_file all is.before after reader word is.knows) ∙ read)

pub pass_nothing : (in_file : Bool) (all : List Word) (reader new : Reader) (settings : List Placed) (place : ℕ) (rest : List Word) (word : Word) (after : List Word) (x : Result (Option Setting) Fault) → IsRead in_file all reader settings place rest → rest ≡ word ∷ after → x ≡ Ok None → (x ≡ read_by reader word (spelled_by reader word) after) ⊎ (x ≡ Err fault.NoMemory) → new ≡ passed reader word (spelled_by reader word) → IsRead in_file all new settings (place + 1) after
pass_nothing in_file all reader new settings place rest word after x is e nothing read new_is = record {
  before = word ∷ is.before;
  knows = subst (λ (r : Reader). Knows in_file all (word ∷ is.before) r) (sym new_is) (knows_pass in_file all is.before reader word is.knows);
  whole = means in_file all reader settings place rest word after is e (Ok None) (made_of x (read_by reader word (spelled_by reader word) after) None nothing read);
  counted = omega (arith, is.counted, ap length e);
}

pub pass_setting : (in_file : Bool) (all : List Word) (reader new : Reader) (settings longer : List Placed) (place : ℕ) (rest : List Word) (word : Word) (after : List Word) (made : Setting) (x : Result (Option Setting) Fault) → IsRead in_file all reader settings place rest → rest ≡ word ∷ after → x ≡ Ok (Some made) → (x ≡ read_by reader word (spelled_by reader word) after) ⊎ (x ≡ Err fault.NoMemory) → new ≡ passed reader word (spelled_by reader word) → longer ≡ settings ++ record { place = place + 1; setting = made } ∷ [] → IsRead in_file all new longer (place + 1) after
pass_setting in_file all reader new settings longer place rest word after made x is e some read new_is longer_is = record {
  before = word ∷ is.before;
  knows = subst (λ (r : Reader). Knows in_file all (word ∷ is.before) r) (sym new_is) (knows_pass in_file all is.before reader word is.knows);
  whole =
      means in_file all reader settings place rest word after is e (Ok (Some made)) (made_of x (read_by reader word (spelled_by reader word) after) (Some made) some read)
      ∙ behind_one settings (place + 1) made (placed_from (place + 1 + 1) (meanings in_file all (word ∷ is.before) after))
      ∙ ap (λ (ps : List Placed). behind ps (placed_from (place + 1 + 1) (meanings in_file all (word ∷ is.before) after))) (sym longer_is);
  counted = omega (arith, is.counted, ap length e);
}

-- the first refusal, or want of memory
abbrev pub Refused : Bool → List Word → WordsErr → Type 0
Refused in_file all e =
    ◌≡◌ {A = Result (List Placed) WordsErr} (Err e) (words_of in_file all)
    ⊎ ◌≡◌ {A = Result (List Placed) WordsErr} (Err e) (Err words.NoMemory)

pub refuses : (in_file : Bool) (all : List Word) (reader : Reader) (settings : List Placed) (place : ℕ) (rest : List Word) (word : Word) (after : List Word) (x : Result (Option Setting) Fault) (f : Fault) (err : WordsErr) → IsRead in_file all reader settings place rest → rest ≡ word ∷ after → x ≡ Err f → (x ≡ read_by reader word (spelled_by reader word) after) ⊎ (x ≡ Err fault.NoMemory) → err ≡ usage_at (place + 1) f → Refused in_file all err
refuses in_file all reader settings place rest word after x f err is e failed (inl read) err_is =
    inl (ap (λ (w : WordsErr). Err w) err_is ∙ sym (means in_file all reader settings place rest word after is e (Err f) (sym read ∙ failed)))
refuses in_file all reader settings place rest word after x f err is e failed (inr memory) err_is =
    let same : f ≡ fault.NoMemory = cc in
    inr (ap (λ (w : WordsErr). Err w) (err_is ∙ ap (λ (g : Fault). usage_at (place + 1) g) same))

pub all_read : (in_file : Bool) (all : List Word) (reader : Reader) (settings : List Placed) (place : ℕ) (rest : List Word) → IsRead in_file all reader settings place rest → length rest ≡ 0 → words_of in_file all ≡ Ok settings
all_read in_file all reader settings place [] is e = is.whole ∙ ap (λ (ps : List Placed). Ok ps) (append-nil settings)
all_read in_file all reader settings place (word ∷ rest) is e = absurd (omega (arith, e))
