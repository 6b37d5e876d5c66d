-- What was read, with what is ahead.
use Rattle.std.proofs.Common.{◌≡◌, ℕ, ◌-◌, ◌≤◌, List, [], ◌∷◌, ◌++◌, length, get_or, take, drop, Bool, true, false, Option, None, Some, Result, Ok, Err, refl, sym, ap, ◌∙◌, arith}
use Rattle.std.specs.Prelude.{IsUtf8, if◌then◌else◌}
use Rattle.std.specs.Str.{is_utf8}
use Rattle.std.proofs.lemmas.List.{take_rest}
use Rattle.std.proofs.lemmas.Str.{IsUtf8-from_is_utf8}
use Rattle.rc_words.specs.declared.setting.Word.{Word}
use Rattle.rc_jobtext.specs.declared.reading.JobTextErr.{JobTextErr}
use Rattle.rc_jobtext.specs.declared.reading.JobTextErr.TheVariants as text
use Rattle.rc_jobtext.specs.Lexing.{Reading}

abbrev pub units_behind : List ℕ → Option (List ℕ) → Option (List ℕ)
units_behind before (Some units) = Some (before ++ units)
units_behind before None = None

abbrev pub words_behind : List Word → Reading → Result (List Word) JobTextErr
words_behind before (Ok a) = Ok (before ++ a.later)
words_behind before (Err place) = Err (text.BadText place)

pub paired : (lone : Bool) (cs ds : List ℕ) → false ≡ lone → cs ≡ ds → ◌≡◌ {A = Option (List ℕ)} (if lone then None else Some cs) (Some ds)
paired false cs ds e same = ap (λ (xs : List ℕ). Some xs) same
paired true cs ds e same = cc

-- the text of bytes that are UTF-8, and none of others
pub is_text : (is : Bool) (cs ds : List ℕ) → is ≡ true → cs ≡ ds → ◌≡◌ {A = Option (List ℕ)} (if is then Some cs else None) (Some ds)
is_text true cs ds h same = ap (λ (xs : List ℕ). Some xs) same
is_text false cs ds h same = cc

pub is_no_text : (bytes : List ℕ) (is : Bool) (cs : List ℕ) → is_utf8 bytes ≡ is → (IsUtf8 bytes → ⊥) → ◌≡◌ {A = Option (List ℕ)} (if is then Some cs else None) None
is_no_text bytes true cs e refuted = absurd (refuted (IsUtf8-from_is_utf8 bytes e))
is_no_text bytes false cs e refuted = refl

-- the first character of a slice, and what follows it
pub first_of : (rest : List ℕ) (c d : ℕ) → 1 ≤ length rest → c ≡ get_or rest 0 d → rest ≡ c ∷ take (length rest - 1) (drop 1 rest)
first_of [] c d h e = absurd (omega (arith, h))
first_of (first ∷ rest) c d h e =
    ap (λ (x : ℕ). x ∷ rest) (sym e) ∙ ap (λ (xs : List ℕ). c ∷ xs) (sym (take_rest (first ∷ rest) 1))
