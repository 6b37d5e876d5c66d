-- What the steps of a drill answer.
use Rattle.std.specs.Prelude.{◌≡◌, ℕ, Bool, true, false, List, ◌++◌, Option, None, codes, Result, Ok, Err, OnOk, OnErr}
use Rattle.std.specs.Option.{is_some}
use Rattle.rc_jobfiles.specs.Ask.{texts}
use Rattle.rc_drillwords.specs.declared.arguments.Asked.{Asked}
use Rattle.rc_mem.specs.MemSite.{told_by}
use Rattle.rc_sitetext.specs.declared.site_file.SiteFile.{SiteFile}
use Rattle.drill.specs.declared.begin.Stop.{Stop}
use Rattle.drill.specs.declared.begin.Stop.TheVariants.{Input, SiteText, NoMemory}
use Rattle.drill.specs.declared.mirror.Finished.{Finished}
use Rattle.drill.specs.Drilling.{EndsBy, IsRefusedAt}
use Rattle.drill.specs.declared.output.Printing.{Printing}
use Rattle.drill.specs.Printed.{Shows, drill_text, input_line, text_line}
use Rattle.rc_sitetext.specs.SiteText.{AreFiles, JobText, Jobs}
use Rattle.rc_volume.specs.declared.sink.SinkErr.{SinkErr}
use Rattle.rc_volume.specs.Site.{Told}
use Rattle.rc_volume.specs.Streams.{AppendsFront}
use Rattle.rc_run.specs.Outcome.{status_of}
use Rattle.drill.specs.Runs.{End, Start}

abbrev pub start_at : Told → ℕ → Jobs → Start
start_at told moment jobs = record { told = told; moment = moment; jobs = jobs }

-- what a file has a run begin on
abbrev pub start_of : SiteFile → Start
start_of file = start_at (told_by file.site) file.moment file.jobs

-- how the run ended, with what its site and its job files tell
abbrev pub end_of : Finished → Jobs → End
end_of finished jobs = record { report = finished.report; outcome = finished.outcome; now = told_by finished.site; jobs = jobs }

-- Texts

-- it holds of job files in the order of their folded names, each with some spelling of its name
abbrev pub OfFiles : Jobs → (List JobText → Type 0) → Type 0
OfFiles jobs holds = (files : List JobText) × AreFiles jobs files × holds files

-- what a writer of a text answered: it is written, or a front of it
pub record Sent (tells : Bool) (result : Result Unit SinkErr) (text old new : List ℕ) : Type 0 where
  pub whole : tells ≡ true → OnOk result (new ≡ old ++ text)
  pub front : tells ≡ true → OnErr result (AppendsFront old text new)

-- what is to be printed and answered
pub record IsPrinted (printing : Printing) (printed : List ℕ) (answer : ℕ) : Type 0 where
  pub files : List JobText
  pub filed : AreFiles printing.jobs files
  pub text : printed ≡ drill_text printing.digests printing.moment files (end_of printing.finished printing.jobs)
  pub is : answer ≡ status_of printing.finished.outcome

-- Runs

-- how a run of what is asked ends on a start
abbrev pub EndsAsked : Asked → Start → End → Type 0
EndsAsked asked start end = EndsBy asked.calls.items asked.reads.items (texts asked.words.items) start end

-- what is printed and answered of it
abbrev pub ShowsAsked : Asked → Start → List ℕ → ℕ → Type 0
ShowsAsked asked start printed status = Shows (is_some asked.number) start.moment (EndsAsked asked start) printed status

-- Stops

-- why nothing begins: the input is read, and has failed, or its text is refused
abbrev pub IsStop : Option ℕ → List ℕ → Stop → Type 0
IsStop number text Input = number ≡ None
IsStop number text (SiteText line kind) = (number ≡ None) × IsRefusedAt text line kind
IsStop number text NoMemory = Unit {0}

-- the line for want of a site
abbrev pub stop_line : Stop → List ℕ
stop_line Input = input_line
stop_line (SiteText line kind) = text_line line kind
stop_line NoMemory = codes ""

-- whether the input failed
abbrev pub stop_failed : {T : Type 0} → Result T Stop → Bool
stop_failed (Ok value) = false
stop_failed (Err Input) = true
stop_failed (Err (SiteText line kind)) = false
stop_failed (Err NoMemory) = false

-- whether the input's text is refused
abbrev pub refuses_text : {T : Type 0} → Result T Stop → Bool
refuses_text (Err (SiteText line kind)) = true
refuses_text other = false
