-- What a drill prints of its arguments and a text, and what it answers.
use Rattle.std.specs.Prelude.{◌≡◌, ◌⊎◌, ℕ, ◌<◌, ◌≤◌, Bool, true, List, [], ◌++◌, length, map, chars, Option, Some, None}
use Rattle.std.specs.Option.{is_some}
use Rattle.std.specs.FinMap.{empty}
use Rattle.rc_volume.specs.declared.site.Side.TheVariants.{Source, Target}
use Rattle.rc_volume.specs.Streams.{AppendsFront}
use Rattle.rc_generate.specs.Generated.{IsGenerated}
use Rattle.rc_generate.specs.Generated as generated
use Rattle.rc_sitetext.specs.declared.err.FaultKind.{FaultKind}
use Rattle.rc_sitetext.specs.declared.err.SiteTextErr.TheVariants.{At}
use Rattle.rc_sitetext.specs.Faults.{fault_number, text_fault}
use Rattle.rc_sitetext.specs.SiteText.{Spells}
use Rattle.rc_drillwords.specs.declared.reading.FailingCall.{FailingCall}
use Rattle.rc_drillwords.specs.declared.reading.FailingReads.{FailingReads}
use Rattle.rc_drillwords.specs.Asking.{calls_asked, first_bad, number_asked, reads_asked, words_in}
use Rattle.drill.specs.declared.begin.TheConstants.{GREATEST_TEXT}
use Rattle.drill.specs.Runs.{End, Ends, MayEnd, Start}
use Rattle.drill.specs.Printed.{Shows, argument_line, input_line, text_line}

-- Arguments

-- no argument is bad, and none generates a site, so that the input is read
pub record ReadsInput (args : List (List ℕ)) : Type 0 where
  pub good : first_bad args ≡ None
  pub number : number_asked args ≡ None

-- the characters of the words that are left to the run
abbrev pub run_words : List (List ℕ) → List (List ℕ)
run_words args = map chars (words_in args)

-- Starts

-- the text spells it, and is not too long
pub record IsSiteText (text : List ℕ) (start : Start) : Type 0 where
  pub short : length text ≤ GREATEST_TEXT
  pub spells : Spells text start.moment start.told start.jobs

-- the site that is generated from a number, without a record and job files
pub record IsMade (number : ℕ) (start : Start) : Type 0 where
  pub source : IsGenerated number Source start.told.source
  pub target : IsGenerated number Target start.told.target
  pub notes : start.told.notes ≡ []
  pub moment : start.moment ≡ generated.moment
  pub jobs : start.jobs ≡ empty

-- what a run begins on: the site of a number, or else that of the text
abbrev pub Begins : Option ℕ → List ℕ → Start → Type 0
Begins (Some number) text start = IsMade number start
Begins None text start = IsSiteText text start

-- longer than a site text may be
pub record IsTooLong (text : List ℕ) (line kind : ℕ) : Type 0 where
  pub long : GREATEST_TEXT < length text
  pub line_is : line ≡ 0
  pub kind_is : kind ≡ 9

-- of a length that it may have, with this first fault
pub record HasFault (text : List ℕ) (line kind : ℕ) : Type 0 where
  pub short : length text ≤ GREATEST_TEXT
  pub fault : FaultKind
  pub first : text_fault text ≡ Some (At line fault)
  pub kind_is : kind ≡ fault_number fault

-- a text is refused by its length, or else by its first fault
abbrev pub IsRefusedAt : List ℕ → ℕ → ℕ → Type 0
IsRefusedAt text line kind = IsTooLong text line kind ⊎ HasFault text line kind

-- Ends

-- how a run ends; where calls or reads of its site are to fail, as it may there
abbrev pub EndsBy : List FailingCall → List FailingReads → List (List ℕ) → Start → End → Type 0
EndsBy [] [] words start end = Ends words start end
EndsBy calls reads words start end = MayEnd calls reads words start end

-- Drills

-- refused for an argument
pub record RefusesArgument (args : List (List ℕ)) (printed : List ℕ) (status : ℕ) : Type 0 where
  pub place : ℕ
  pub bad : first_bad args ≡ Some place
  pub line : printed ≡ argument_line place
  pub answer : status ≡ 16

-- the input could not be read
pub record FailsToRead (failed : Type 0) (args : List (List ℕ)) (printed : List ℕ) (status : ℕ) : Type 0 where
  pub reads : ReadsInput args
  pub cause : failed
  pub line : printed ≡ input_line
  pub answer : status ≡ 16

-- refused for its text
pub record RefusesText (args : List (List ℕ)) (text printed : List ℕ) (status : ℕ) : Type 0 where
  pub reads : ReadsInput args
  pub at : ℕ
  pub kind : ℕ
  pub refused : IsRefusedAt text at kind
  pub line : printed ≡ text_line at kind
  pub answer : status ≡ 16

-- run, with what is printed and answered of that
pub record Runs (args : List (List ℕ)) (text printed : List ℕ) (status : ℕ) : Type 0 where
  pub good : first_bad args ≡ None
  pub start : Start
  pub begins : Begins (number_asked args) text start
  pub shows : Shows (is_some (number_asked args)) start.moment
      (EndsBy (calls_asked args) (reads_asked args) (run_words args) start) printed status

-- what a drill is about to print and to answer
abbrev pub Prints : Type 0 → List (List ℕ) → List ℕ → List ℕ → ℕ → Type 0
Prints input_failed args text printed status =
    RefusesArgument args printed status ⊎ FailsToRead input_failed args printed status ⊎ RefusesText args text printed status
    ⊎ Runs args text printed status

-- all of it was written and that is answered; or a front, where writing failed or memory ran out
abbrev pub WritesOut : Type 0 → List ℕ → List ℕ → ℕ → List ℕ → ℕ → Type 0
WritesOut output_failed old printed answer new status =
    ((new ≡ old ++ printed) × (status ≡ answer))
    ⊎ (AppendsFront old printed new × ((output_failed × (status ≡ 16)) ⊎ (status ≡ 32)))

-- one of the texts that are printed is written
pub record WritesOne (prints : List ℕ → ℕ → Type 0) (output_failed : Type 0) (old new : List ℕ) (status : ℕ) : Type 0 where
  pub printed : List ℕ
  pub answer : ℕ
  pub is_printed : prints printed answer
  pub writes : WritesOut output_failed old printed answer new status

-- the same, or memory ran out before the first byte
abbrev pub Drills : Type 0 → Type 0 → List (List ℕ) → List ℕ → List ℕ → List ℕ → ℕ → Type 0
Drills input_failed output_failed args text old new status =
    WritesOne (Prints input_failed args text) output_failed old new status ⊎ ((new ≡ old) × (status ≡ 32))

-- it holds of some bytes: of those that are told, where any are
abbrev pub OfSome : Bool → List ℕ → (List ℕ → Type 0) → Type 0
OfSome tells told holds = (bytes : List ℕ) × (tells ≡ true → bytes ≡ told) × holds bytes
