-- The first fault of a text: the first line that has one, and of that line the first in the order of the faults.
use Rattle.std.specs.Prelude.{◌≡◌, ℕ, ◌+◌, ◌-◌, Bool, true, false, ◌&&◌, ◌==◌, nat_lt, if◌then◌else◌, List, [], ◌∷◌, length, codes, Option, Some, None, Result, Ok, Err}
use Rattle.std.specs.List.{slice_split}
use Rattle.std.specs.Str.{is_utf8, bytes_eq}
use Rattle.std.specs.FinMap.{empty, insert}
use Rattle.rc_tree.specs.declared.moment.TheConstants.{GREATEST_MOMENT}
use Rattle.rc_tree.specs.Name.{folded}
use Rattle.rc_tree.specs.Path.{key_of, parent_of}
use Rattle.rc_tree.specs.Tree.{Tree}
use Rattle.rc_sitetext.specs.declared.draft.Place.{Place}
use Rattle.rc_sitetext.specs.declared.draft.Place.TheVariants.{AtSite, AtMoment, AtSource, InSource, InTarget, InJobs, Done}
use Rattle.rc_sitetext.specs.declared.err.FaultKind.{FaultKind}
use Rattle.rc_sitetext.specs.declared.err.FaultKind.TheVariants as fault
use Rattle.rc_sitetext.specs.declared.err.LineErr.{LineErr}
use Rattle.rc_sitetext.specs.declared.err.LineErr.TheVariants as line
use Rattle.rc_sitetext.specs.declared.err.SiteTextErr.{SiteTextErr}
use Rattle.rc_sitetext.specs.declared.err.SiteTextErr.TheVariants.{At, NoMemory}
use Rattle.rc_sitetext.specs.declared.err.ValueErr.{ValueErr}
use Rattle.rc_sitetext.specs.declared.err.ValueErr.TheVariants as value
use Rattle.rc_sitetext.specs.SiteText.{Jobs}
use Rattle.rc_sitetext.specs.Reading.{bytes_of, entry_texts, fields_at, hex_at, is_above, is_numeral, is_within, job_at, job_texts, node_of, number_at, value_behind, values_at}

-- the numbers of the kinds
abbrev pub fault_number : FaultKind → ℕ
fault_number fault.Line = 1
fault_number fault.Field = 2
fault_number fault.Order = 3
fault_number fault.Parent = 4
fault_number fault.Content = 5
fault_number fault.End = 6
fault_number fault.Utf8 = 7
fault_number fault.Limit = 8

-- Lines

infixl 10 ◌>>=◌
abbrev pub ◌>>=◌ : {A B : Type 0} → Result A FaultKind → (A → Result B FaultKind) → Result B FaultKind
(Ok x) >>= f = f x
(Err kind) >>= f = Err kind

-- a value, or this fault in the place of none
abbrev pub needs : {A : Type 0} → FaultKind → Option A → Result A FaultKind
needs kind (Some x) = Ok x
needs kind None = Err kind

-- a value where a test holds, or else this fault
abbrev pub holds : {A : Type 0} → FaultKind → Bool → A → Result A FaultKind
holds kind true x = Ok x
holds kind false x = Err kind

-- what a reader of a value answered, with this fault where the value was refused
abbrev pub needed : {T : Type 0} → FaultKind → Result T ValueErr → Result T LineErr
needed kind (Ok x) = Ok x
needed kind (Err value.Refused) = Err (line.Fault kind)
needed kind (Err value.NoMemory) = Err line.NoMemory

-- what a function answered of a line, seen by view, is what reading gives, unless memory ran out
abbrev pub Stops : {Y : Type 0} → LineErr → Result Y FaultKind → Type 0
Stops line.NoMemory read = Unit {0}
Stops (line.Fault kind) read = read ≡ Err kind

abbrev pub Answers : {X Y : Type 0} → (X → Y) → Result X LineErr → Result Y FaultKind → Type 0
Answers view (Ok x) read = read ≡ Ok (view x)
Answers view (Err e) read = Stops e read

-- the tree with the entry of a line behind its entries
unfoldable pub added_at : Tree → List ℕ → Result Tree FaultKind
added_at tree line = do
  texts ← needs fault.Line (entry_texts line)
  fields ← needs fault.Field (fields_at texts)
  values ← needs fault.Limit (values_at texts fields)
  path ← holds fault.Parent (is_within tree (parent_of values.path)) values.path
  key ← holds fault.Order (is_above tree (key_of path)) (key_of path)
  bytes ← needs fault.Content (bytes_of texts.kind values.size texts.content)
  Ok (insert tree key (node_of texts.kind values bytes))

-- the job files with that of a line behind them
unfoldable pub filed_at : Jobs → List ℕ → Result Jobs FaultKind
filed_at jobs line = do
  texts ← needs fault.Line (job_texts line)
  job ← needs fault.Field (job_at texts)
  key ← holds fault.Order (is_above jobs (folded job.0)) (folded job.0)
  Ok (insert jobs key job.1)

unfoldable pub moment_at : List ℕ → Result ℕ FaultKind
moment_at line = do
  text ← needs fault.Line (value_behind (codes "MOMENT") line)
  number ← holds fault.Field (is_numeral text) text
  needs fault.Limit (number_at GREATEST_MOMENT number)

unfoldable pub version_at : List ℕ → Result (List ℕ) FaultKind
version_at line = needs fault.Line (value_behind (codes "SITE") line) >>= λ text. holds fault.Field (bytes_eq text (codes "1")) text

-- what the lines of a text have said so far, and what may come next
pub record Draft : Type 0 where
  pub place : Place
  pub moment : ℕ
  pub source : Tree
  pub target : Tree
  pub notes : List ℕ
  pub jobs : Jobs

abbrev pub start : Draft
start = record { place = AtSite; moment = 0; source = empty; target = empty; notes = []; jobs = empty }

-- the record, where the line is its line, else one more entry of the target
abbrev pub recorded_or_added : Option (List ℕ) → Draft → List ℕ → Result Draft FaultKind
recorded_or_added (Some hex) draft line = needs fault.Field (hex_at hex) >>= λ notes. Ok (record draft { place = InJobs; notes = notes })
recorded_or_added None draft line = added_at draft.target line >>= λ tree. Ok (record draft { target = tree })

-- the lines that may come at each place
unfoldable pub text_read : Place → Draft → List ℕ → Result Draft FaultKind
text_read AtSite draft line = version_at line >>= λ version. Ok (record draft { place = AtMoment })
text_read AtMoment draft line = moment_at line >>= λ moment. Ok (record draft { place = AtSource; moment = moment })
text_read AtSource draft line = holds fault.Line (bytes_eq line (codes "SOURCE")) (record draft { place = InSource })
text_read InSource draft line =
    if bytes_eq line (codes "TARGET") then Ok (record draft { place = InTarget })
    else added_at draft.source line >>= λ tree. Ok (record draft { source = tree })
text_read InTarget draft line = recorded_or_added (value_behind (codes "RECORD") line) draft line
text_read InJobs draft line =
    if bytes_eq line (codes "END") then Ok (record draft { place = Done })
    else filed_at draft.jobs line >>= λ jobs. Ok (record draft { jobs = jobs })
text_read Done draft line = Err fault.End

abbrev pub is_done : Place → Bool
is_done Done = true
is_done _ = false

-- the draft with one more line; behind the end no other fault counts
unfoldable pub line_read : Draft → List ℕ → Result Draft FaultKind
line_read draft line =
    if is_done draft.place then Err fault.End
    else holds fault.Utf8 (is_utf8 line) line >>= λ text. text_read draft.place draft text

-- Texts

-- the fault of a line, or want of memory
abbrev pub line_at : ℕ → LineErr → SiteTextErr
line_at n (line.Fault kind) = At n kind
line_at n line.NoMemory = NoMemory

-- the parts of a text: each but the last one is a line
abbrev pub lines_in : List ℕ → List (List ℕ)
lines_in text = slice_split (λ b. b == 10) text

-- the number of the last line that was begun, where this is what comes behind the line end before line n
abbrev pub begun : ℕ → List ℕ → ℕ
begun n rest = if length rest == 0 && nat_lt 1 n then n - 1 else n

abbrev pub ended : ℕ → Draft → List ℕ → Result Draft SiteTextErr
ended n draft rest = if is_done draft.place && length rest == 0 then Ok draft else Err (At (begun n rest) fault.End)

-- behind line n, or its fault
abbrev pub behind_line : ℕ → Result Draft FaultKind → (Draft → Result Draft SiteTextErr) → Result Draft SiteTextErr
behind_line n (Ok draft) rest = rest draft
behind_line n (Err kind) rest = Err (At n kind)

-- the draft behind these parts of a text, of which the first is line n, or their first fault
unfoldable pub lines_read : ℕ → Draft → List (List ℕ) → Result Draft SiteTextErr
lines_read n draft [] = ended n draft []
lines_read n draft (line ∷ lines) =
    if length lines == 0 then ended n draft line
    else behind_line n (line_read draft line) (λ more. lines_read (n + 1) more lines)

abbrev pub text_read_whole : List ℕ → Result Draft SiteTextErr
text_read_whole text = lines_read 1 start (lines_in text)

-- what a reader of whole texts answered, seen by view, is what reading gives, unless memory ran out
abbrev pub Follows : {X Y : Type 0} → (X → Y) → Result X SiteTextErr → Result Y SiteTextErr → Type 0
Follows view (Ok x) read = read ≡ Ok (view x)
Follows view (Err NoMemory) read = Unit {0}
Follows view (Err e) read = read ≡ Err e

abbrev pub fault_of : {A : Type 0} → Result A SiteTextErr → Option SiteTextErr
fault_of (Ok x) = None
fault_of (Err e) = Some e

-- the first fault of a text, where it has one
unfoldable pub text_fault : List ℕ → Option SiteTextErr
text_fault text = fault_of (text_read_whole text)

-- a reader of whole texts answers a fault exactly where there is one, and then the first
abbrev pub Refuses : {X : Type 0} → Result X SiteTextErr → Option SiteTextErr → Type 0
Refuses (Ok x) first = first ≡ None
Refuses (Err NoMemory) first = Unit {0}
Refuses (Err e) first = first ≡ Some e
