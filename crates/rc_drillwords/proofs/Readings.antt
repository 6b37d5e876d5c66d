-- What arguments ask for, one after another.
use Rattle.std.proofs.Common.{◌≡◌, ◌≢◌, ℕ, ◌+◌, ◌||◌, Bool, true, false, eqb, List, [], ◌∷◌, ◌++◌, Option, Some, None, is_some, refl, sym, ap, ◌∙◌, append_assoc, append-nil, arith, length, take, drop, get_or, ◌-◌, ◌<◌, ◌≤◌, String, string_bytes, subst}
use Rattle.std.specs.Prelude.{if◌then◌else◌}
use Rattle.std.proofs.lemmas.Bool.{ne_eqb}
use Rattle.std.proofs.lemmas.List.{take_rest}
use Rattle.rc_drillwords.specs.declared.arguments.Asked.{Asked}
use Rattle.rc_drillwords.specs.declared.arguments.ArgumentErr.{ArgumentErr}
use Rattle.rc_drillwords.specs.declared.arguments.ArgumentErr.TheVariants as err
use Rattle.rc_drillwords.specs.declared.reading.FailingCall.{FailingCall}
use Rattle.rc_drillwords.specs.declared.reading.FailingReads.{FailingReads}
use Rattle.rc_drillwords.specs.declared.reading.Reading.TheVariants.{OfRun}
use Rattle.rc_drillwords.specs.Arguments.{reading_of}
use Rattle.rc_drillwords.specs.Asking.{Adds, IsAsked, IsFirst, bad_at, bad_from, call_by, calls_asked, first_bad, is_bad, number_asked, number_by, or_later, reads_asked, reads_by, spellings, word_by, words_in}

-- one that does not begin with `/`
pub run_word : (text : List ℕ) → ((rest : List ℕ) → text ≢ 47 ∷ rest) → reading_of text ≡ OfRun
unfolding reading_of
run_word [] other = refl
run_word (b ∷ text) other =
    let ne : b ≢ 47 = λ e. other text (ap (λ (x : ℕ). x ∷ text) e) in
    rw (ne_eqb b 47 ne) refl

-- Arguments one after another

-- what was asked so far, with what the rest asks, is what all ask
pub record Goes (args : List (List ℕ)) (asked : Asked) (place : ℕ) (rest : List (List ℕ)) : Type 0 where
  pub words : spellings asked.words.items ++ words_in rest ≡ words_in args
  pub number : or_later asked.number (number_asked rest) ≡ number_asked args
  pub calls : asked.calls.items ++ calls_asked rest ≡ calls_asked args
  pub reads : asked.reads.items ++ reads_asked rest ≡ reads_asked args
  pub bad : bad_from place (is_some asked.number) rest ≡ first_bad args

abbrev pub IsAskingNothing : Asked → Type 0
IsAskingNothing asked = (spellings asked.words.items ≡ []) × (asked.number ≡ None) × (asked.calls.items ≡ []) × (asked.reads.items ≡ [])

pub goes_first : (args : List (List ℕ)) (asked : Asked) → IsAskingNothing asked → Goes args asked 1 args
goes_first args asked nothing = record {
  words = ap (λ (w : List (List ℕ)). w ++ words_in args) nothing.0;
  number = ap (λ (n : Option ℕ). or_later n (number_asked args)) nothing.1;
  calls = ap (λ (w : List FailingCall). w ++ calls_asked args) nothing.2;
  reads = ap (λ (w : List FailingReads). w ++ reads_asked args) nothing.3;
  bad = ap (λ (n : Option ℕ). bad_from 1 (is_some n) args) nothing.1;
}

-- lists that each element gives a part of
part_more : {X : Type 0} (old part later new all : List X) → new ≡ old ++ part → old ++ (part ++ later) ≡ all → new ++ later ≡ all
part_more {X} old part later new all is e = ap (λ (t : List X). t ++ later) is ∙ append_assoc old part later ∙ e

later_more : (old new : Option ℕ) (part later all : Option ℕ) → new ≡ or_later old part → or_later old (or_later part later) ≡ all → or_later new later ≡ all
later_more (Some n) new part later all is e = ap (λ (o : Option ℕ). or_later o later) is ∙ e
later_more None new part later all is e = ap (λ (o : Option ℕ). or_later o later) is ∙ e

some_later : (old part : Option ℕ) → is_some (or_later old part) ≡ is_some old || is_some part
some_later (Some n) part = refl
some_later None part = refl

not_bad : (bad : Bool) (place : ℕ) → (if bad then Some place else None) ≡ None → bad ≡ false
not_bad true place e = cc
not_bad false place e = refl

pub goes_on : (args : List (List ℕ)) (old new : Asked) (place : ℕ) (arg : List ℕ) (rest : List (List ℕ)) → Goes args old place (arg ∷ rest) → Adds arg old new → bad_at place (is_some old.number) arg ≡ None → Goes args new (place + 1) rest
unfolding words_in number_asked calls_asked reads_asked bad_from
goes_on args old new place arg rest goes adds good = record {
  words = part_more (spellings old.words.items) (word_by (reading_of arg) arg) (words_in rest) (spellings new.words.items) (words_in args) adds.words goes.words;
  number = later_more old.number new.number (number_by (reading_of arg)) (number_asked rest) (number_asked args) adds.number goes.number;
  calls = part_more old.calls.items (call_by (reading_of arg)) (calls_asked rest) new.calls.items (calls_asked args) adds.calls goes.calls;
  reads = part_more old.reads.items (reads_by (reading_of arg)) (reads_asked rest) new.reads.items (reads_asked args) adds.reads goes.reads;
  bad =
      ap (λ (b : Bool). bad_from (place + 1) b rest) (ap is_some adds.number ∙ some_later old.number (number_by (reading_of arg)))
      ∙ sym (ap (λ (b : Bool). if b then Some place else bad_from (place + 1) (is_some old.number || is_some (number_by (reading_of arg))) rest) (not_bad (is_bad (is_some old.number) (reading_of arg)) place good))
      ∙ goes.bad;
}

pub goes_last : (args : List (List ℕ)) (asked : Asked) (place : ℕ) → Goes args asked place [] → IsAsked args asked × (first_bad args ≡ None)
unfolding words_in number_asked calls_asked reads_asked bad_from
goes_last args asked place goes = (
  record {
    words = sym (append-nil (spellings asked.words.items)) ∙ goes.words;
    number = number_last asked.number ∙ goes.number;
    calls = sym (append-nil asked.calls.items) ∙ goes.calls;
    reads = sym (append-nil asked.reads.items) ∙ goes.reads;
  },
  sym goes.bad,
)
  where
    number_last : (number : Option ℕ) → number ≡ or_later number None
    number_last (Some n) = refl
    number_last None = refl

-- the first bad one
pub goes_bad : (args : List (List ℕ)) (asked : Asked) (place : ℕ) (arg : List ℕ) (rest : List (List ℕ)) (e : ArgumentErr) → Goes args asked place (arg ∷ rest) → IsFirst e (bad_at place (is_some asked.number) arg) → IsFirst e (first_bad args)
unfolding bad_from
goes_bad args asked place arg rest err.NoMemory goes refuses = tt
goes_bad args asked place arg rest (err.Bad n) goes refuses = sym goes.bad ∙ at_once (is_bad (is_some asked.number) (reading_of arg)) refuses
  where
    at_once : (bad : Bool) → (if bad then Some place else None) ≡ Some n → (if bad then Some place else bad_from (place + 1) (is_some asked.number || is_some (number_by (reading_of arg))) rest) ≡ Some n
    at_once true e = e
    at_once false e = cc

-- what a list begins with, and what it has behind that
pub begins : {A : Type 0} (xs : List A) (first : A) → 1 ≤ length xs → first ≡ get_or xs 0 first → xs ≡ first ∷ take (length xs - 1) (drop 1 xs)
begins [] first some is = absurd (omega (arith, some))
begins (x ∷ xs) first some is = ap (λ y. y ∷ xs) (sym is) ∙ ap (λ rest. first ∷ rest) (sym (take_rest (x ∷ xs) 1))

pub length_zero : {A : Type 0} (xs : List A) → length xs < 1 → xs ≡ []
length_zero [] none = refl
length_zero (x ∷ xs) none = absurd (omega (arith, none))

-- the same of the next argument of a list of words
pub goes_at : {A : Type 0} (args : List (List ℕ)) (asked : Asked) (place : ℕ) (rest : List (String A)) (first : String A) (later : List (String A)) (arg : List ℕ) → Goes args asked place (spellings rest) → rest ≡ first ∷ later → arg ≡ string_bytes first → Goes args asked place (arg ∷ spellings later)
goes_at {A} args asked place rest first later arg goes is same =
    subst (Goes args asked place) (ap (λ (words : List (String A)). spellings words) is ∙ ap (λ (b : List ℕ). b ∷ spellings later) (sym same)) goes
