-- What all arguments of a drill ask for, and which is the first that is bad. An argument is the list of its bytes.
use Rattle.std.specs.Prelude.{◌≡◌, ℕ, ◌+◌, Bool, true, false, ◌||◌, if◌then◌else◌, List, [], ◌∷◌, ◌++◌, Option, None, Some, Result, Ok, Err, String, map, string_bytes}
use Rattle.std.specs.Option.{is_some}
use Rattle.std.specs.List.{flat_map}
use Rattle.rc_drillwords.specs.declared.arguments.Asked.{Asked}
use Rattle.rc_drillwords.specs.declared.arguments.ArgumentErr.{ArgumentErr}
use Rattle.rc_drillwords.specs.declared.arguments.ArgumentErr.TheVariants as err
use Rattle.rc_drillwords.specs.declared.reading.FailingCall.{FailingCall}
use Rattle.rc_drillwords.specs.declared.reading.FailingReads.{FailingReads}
use Rattle.rc_drillwords.specs.declared.reading.Reading.{Reading}
use Rattle.rc_drillwords.specs.declared.reading.Reading.TheVariants.{OfRun, Bad, Generate, FailCall, FailReads}
use Rattle.rc_drillwords.specs.Arguments.{reading_of}

-- the bytes of words
abbrev pub spellings : {A : Type 0} → List (String A) → List (List ℕ)
spellings words = map string_bytes words

-- What each argument gives

abbrev pub word_by : Reading → List ℕ → List (List ℕ)
word_by OfRun argument = argument ∷ []
word_by other argument = []

abbrev pub number_by : Reading → Option ℕ
number_by (Generate number) = Some number
number_by other = None

abbrev pub call_by : Reading → List FailingCall
call_by (FailCall call) = call ∷ []
call_by other = []

abbrev pub reads_by : Reading → List FailingReads
reads_by (FailReads reads) = reads ∷ []
reads_by other = []

-- What all give

-- the words of the run
unfoldable pub words_in : List (List ℕ) → List (List ℕ)
words_in args = flat_map (λ arg. word_by (reading_of arg) arg) args

abbrev pub or_later : Option ℕ → Option ℕ → Option ℕ
or_later (Some number) later = Some number
or_later None later = later

-- the number of the generated site
unfoldable pub number_asked : List (List ℕ) → Option ℕ
number_asked [] = None
number_asked (arg ∷ args) = or_later (number_by (reading_of arg)) (number_asked args)

-- the calls that fail
unfoldable pub calls_asked : List (List ℕ) → List FailingCall
calls_asked args = flat_map (λ arg. call_by (reading_of arg)) args

-- the reads that fail
unfoldable pub reads_asked : List (List ℕ) → List FailingReads
reads_asked args = flat_map (λ arg. reads_by (reading_of arg)) args

pub record IsAsked (args : List (List ℕ)) (asked : Asked) : Type 0 where
  pub words : spellings asked.words.items ≡ words_in args
  pub number : asked.number ≡ number_asked args
  pub calls : asked.calls.items ≡ calls_asked args
  pub reads : asked.reads.items ≡ reads_asked args

-- What is bad

-- a bad word, or one more that generates
abbrev pub is_bad : Bool → Reading → Bool
is_bad generated Bad = true
is_bad generated (Generate number) = generated
is_bad generated other = false

-- the number of the first bad argument, where they are numbered from n on and one before may have generated
unfoldable pub bad_from : ℕ → Bool → List (List ℕ) → Option ℕ
bad_from n generated [] = None
bad_from n generated (arg ∷ args) =
    if is_bad generated (reading_of arg) then Some n
    else bad_from (n + 1) (generated || is_some (number_by (reading_of arg))) args

abbrev pub first_bad : List (List ℕ) → Option ℕ
first_bad args = bad_from 1 false args

-- the first bad argument is the one that is answered, unless memory ran out
abbrev pub IsFirst : ArgumentErr → Option ℕ → Type 0
IsFirst (err.Bad place) bad = bad ≡ Some place
IsFirst err.NoMemory bad = Unit {0}

-- arguments are refused exactly where there is a bad one
abbrev pub Refuses : {T : Type 0} → Result T ArgumentErr → Option ℕ → Type 0
Refuses (Ok value) bad = bad ≡ None
Refuses (Err e) bad = IsFirst e bad

-- One more argument

abbrev pub bad_at : ℕ → Bool → List ℕ → Option ℕ
bad_at place generated arg = if is_bad generated (reading_of arg) then Some place else None

-- what is asked with one more argument
pub record Adds (arg : List ℕ) (old new : Asked) : Type 0 where
  pub words : spellings new.words.items ≡ spellings old.words.items ++ word_by (reading_of arg) arg
  pub number : new.number ≡ or_later old.number (number_by (reading_of arg))
  pub calls : new.calls.items ≡ old.calls.items ++ call_by (reading_of arg)
  pub reads : new.reads.items ≡ old.reads.items ++ reads_by (reading_of arg)
