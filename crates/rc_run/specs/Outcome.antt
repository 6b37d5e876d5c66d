-- The outcomes of a run in one table: at which step each comes, and which part failed. All else that is said of them is
-- looked up there.
use Rattle.std.specs.Prelude.{◌≡◌, ◌⊎◌, ℕ, ◌+◌, ◌≤◌, ◌==◌, Bool, true, false, if◌then◌else◌, List, [], ◌∷◌, ◌++◌, chars, codes, decimal, Result, Ok, Err}
use Rattle.rc_report.specs.Report.{path_text}
use Rattle.rc_volume.specs.declared.site.Part.{Part}
use Rattle.rc_volume.specs.declared.site.Part.TheVariants as part
use Rattle.rc_volume.specs.declared.site.Side.{Side}
use Rattle.rc_volume.specs.declared.site.Side.TheVariants as side
use Rattle.rc_volume.specs.Faults.{Cause, Counts, RisesIf, RoseBy, free, on, part_for}
use Rattle.rc_volume.specs.Site.{Seen}
use Rattle.rc_volume.specs.Waits.{Paused, Waits}
use Rattle.rc_run.specs.declared.outcome.Outcome.{Outcome}
use Rattle.rc_run.specs.declared.outcome.Outcome.TheVariants.{Done, Listed, Usage, JobMissing, JobDeep, JobRound, JobFault, NotYet, RootFault, ListFault, TooMany, TooBig, RecordFault, SiteFault, SinkFault, NoMemory}
use Rattle.rc_run.specs.declared.outcome.Unbuilt.{Unbuilt}
use Rattle.rc_run.specs.declared.outcome.Unbuilt.TheVariants as unbuilt

-- The steps of a run, by their places in its order

abbrev pub at_words : ℕ
at_words = 1

abbrev pub at_roots : ℕ
at_roots = 2

abbrev pub at_record : ℕ
at_record = 3

abbrev pub at_listing : ℕ
at_listing = 4

abbrev pub at_limits : ℕ
at_limits = 5

abbrev pub at_copies : ℕ
at_copies = 6

abbrev pub at_report : ℕ
at_report = 7

abbrev pub at_end : ℕ
at_end = 8

-- how a run ends
pub data Ending : Type 0 where
  -- refused at a step
  refused : ℕ → Ending
  -- a part failed at a step
  failed : ℕ → Part → Ending
  -- the store of job files failed
  unstored : Ending
  -- the report could not be written
  unreported : Ending
  -- all is done
  finished : Ending
  -- the report says what would be done
  listed : Ending
  -- memory was wanting, at whatever step
  out_of_memory : Ending

-- where what is not built yet is found out
abbrev pub unbuilt_step : Unbuilt → ℕ
unbuilt_step unbuilt.Words = at_words
unbuilt_step unbuilt.Record = at_record

-- the table
abbrev pub ending : Outcome → Ending
ending (Done bits moment) = finished
ending (Listed bits) = listed
ending (Usage file place kind) = refused at_words
ending (JobMissing name) = refused at_words
ending (JobDeep name) = refused at_words
ending (JobRound name) = refused at_words
ending JobFault = unstored
ending (NotYet what) = refused (unbuilt_step what)
ending (RootFault side) = failed at_roots (part_for side)
ending RecordFault = failed at_record part.Record
ending (ListFault side) = failed at_listing (part_for side)
ending (TooMany side count) = refused at_limits
ending (TooBig path size) = refused at_limits
ending (SiteFault side) = failed at_copies (part_for side)
ending SinkFault = unreported
ending NoMemory = out_of_memory

-- What is looked up in it

-- the step that a run surely came to
abbrev pub first_step : Ending → ℕ
first_step (refused step) = step
first_step (failed step part) = step
first_step unstored = at_words
first_step unreported = at_report
first_step finished = at_end
first_step listed = at_end
first_step out_of_memory = 0

-- the step that it did not come past
abbrev pub last_step : Ending → ℕ
last_step (refused step) = step
last_step (failed step part) = step
last_step unstored = at_words
last_step unreported = at_report
last_step finished = at_end
last_step listed = at_end
last_step out_of_memory = at_end

-- how many tries of one call fail before a fault at a step is answered: where a listing fails it is tried again so often
abbrev pub tries_at : ℕ → ℕ → ℕ
tries_at retries step = if step == at_listing then retries + 1 else 1

-- what it says of the counts of faults of the site
abbrev pub cause_of : ℕ → Ending → Cause
cause_of retries (refused step) = free
cause_of retries (failed step part) = on part (tries_at retries step)
cause_of retries unstored = free
cause_of retries unreported = free
cause_of retries finished = free
cause_of retries listed = free
cause_of retries out_of_memory = free

abbrev pub run_cause : {T : Type 0} → ℕ → Result T Outcome → Cause
run_cause retries (Ok value) = free
run_cause retries (Err outcome) = cause_of retries (ending outcome)

-- what an outcome says of a site's counts of faults
abbrev pub Causes : ℕ → Outcome → Seen → Seen → Type 0
Causes retries outcome old new = Counts (cause_of retries (ending outcome)) old.faults new.faults

-- a fault of a side behind so many failures, where it is one of the volume
abbrev pub FailedBy : ℕ → Outcome → Seen → Seen → Type 0
FailedBy n (SiteFault side) old new = RoseBy n (old.faults (part_for side)) (new.faults (part_for side))
FailedBy n other old new = Unit {0}

-- and of how the clock waited meanwhile
abbrev pub WaitsFor : ℕ → ℕ → Outcome → Seen → Seen → Paused → Paused → Type 0
WaitsFor seconds retries outcome old new = Waits seconds (cause_of retries (ending outcome)) old.faults new.faults

-- whether the report's sink failed
abbrev pub is_unreported : Ending → Bool
is_unreported unreported = true
is_unreported other = false

-- what an outcome says of the sink's count
abbrev pub CausesInSink : Outcome → ℕ → ℕ → Type 0
CausesInSink outcome before now = RisesIf (is_unreported (ending outcome)) before now

-- whether the store of job files failed
abbrev pub is_unstored : Ending → Bool
is_unstored unstored = true
is_unstored other = false

-- what an outcome says of the store's count
abbrev pub CausesInStore : Outcome → ℕ → ℕ → Type 0
CausesInStore outcome before now = RisesIf (is_unstored (ending outcome)) before now

abbrev pub unstored_in : {T : Type 0} → Result T Outcome → Bool
unstored_in (Ok value) = false
unstored_in (Err outcome) = is_unstored (ending outcome)

-- a file that was to be kept may be as it was: the store failed, or memory was wanting at whatever step
abbrev pub may_be_old : Ending → Bool
may_be_old unstored = true
may_be_old out_of_memory = true
may_be_old other = false

abbrev pub may_be_old_in : {T : Type 0} → Result T Outcome → Bool
may_be_old_in (Ok value) = false
may_be_old_in (Err outcome) = may_be_old (ending outcome)

-- the exit status of an ending without bits
abbrev pub status_at : Ending → ℕ
status_at out_of_memory = 32
status_at other = 16

abbrev pub status_of : Outcome → ℕ
status_of (Done bits moment) = bits
status_of (Listed bits) = bits
status_of other = status_at (ending other)

-- at Done, of its bits and its moment
abbrev pub IfDone : Outcome → (ℕ → ℕ → Type 0) → Type 0
IfDone (Done bits moment) holds = holds bits moment
IfDone other holds = Unit {0}

-- at Done and at Listed, of the bits
abbrev pub IfReported : Outcome → (ℕ → Type 0) → Type 0
IfReported (Done bits moment) holds = holds bits
IfReported (Listed bits) holds = holds bits
IfReported other holds = Unit {0}

-- the whole report was written
abbrev pub is_reported : Ending → Bool
is_reported finished = true
is_reported listed = true
is_reported other = false

-- the answer comes at one of these steps: as a refusal of which this holds, or otherwise
abbrev pub EndsAt : ℕ → ℕ → Type 0 → Ending → Type 0
EndsAt from to holds (refused step) = (from ≤ step) × (step ≤ to) × holds
EndsAt from to holds (failed step part) = (from ≤ step) × (step ≤ to)
EndsAt from to holds unstored = (from ≤ at_words) × (at_words ≤ to)
EndsAt from to holds unreported = (from ≤ at_report) × (at_report ≤ to)
EndsAt from to holds finished = (from ≤ at_end) × (at_end ≤ to)
EndsAt from to holds listed = (from ≤ at_end) × (at_end ≤ to)
EndsAt from to holds out_of_memory = from ≤ at_end

-- it comes at the words, or memory is wanting
abbrev pub IsAtWords : Outcome → Type 0
IsAtWords outcome = EndsAt at_words at_words (Unit {0}) (ending outcome)

-- this, or want of memory
abbrev pub IsOrNoMemory : Outcome → Outcome → Type 0
IsOrNoMemory wanted outcome = (outcome ≡ wanted) ⊎ (outcome ≡ NoMemory)

-- this, want of memory, or a fault of the store of job files
abbrev pub IsOrFault : Outcome → Outcome → Type 0
IsOrFault wanted outcome = (outcome ≡ wanted) ⊎ (outcome ≡ NoMemory) ⊎ (outcome ≡ JobFault)

-- Lines

abbrev pub side_name : Side → List ℕ
side_name side.Source = codes "source"
side_name side.Target = codes "target"

-- the number of what is not built yet
abbrev pub unbuilt_number : Unbuilt → ℕ
unbuilt_number unbuilt.Words = 1
unbuilt_number unbuilt.Record = 3

-- where the word stands: on the command line, or in a job file
abbrev pub in_file : List ℕ → List ℕ
in_file [] = []
in_file (c ∷ cs) = codes " of job file " ++ c ∷ cs

-- the line of a refusal or a fault, without its line end; nothing at Done and at Listed. Each outcome has words of its own.
abbrev pub line_of : Outcome → List ℕ
line_of (Done bits moment) = []
line_of (Listed bits) = []
line_of (Usage file place kind) = codes "ERROR: usage U" ++ decimal kind ++ codes " at word " ++ decimal place ++ in_file file
line_of (JobMissing name) = codes "ERROR: job file missing: " ++ name
line_of (JobDeep name) = codes "ERROR: job file too deep: " ++ name
line_of (JobRound name) = codes "ERROR: job file names itself: " ++ name
line_of JobFault = codes "ERROR: job store fault"
line_of (NotYet what) = codes "ERROR: not built yet: " ++ decimal (unbuilt_number what)
line_of (RootFault side) = codes "ERROR: root fault: " ++ side_name side
line_of (ListFault side) = codes "ERROR: listing fault: " ++ side_name side
line_of (TooMany side count) = codes "ERROR: too many entries: " ++ side_name side ++ codes " " ++ decimal count
line_of (TooBig path size) = codes "ERROR: file too big: " ++ chars (path_text path) ++ codes " " ++ decimal size
line_of RecordFault = codes "ERROR: record fault"
line_of (SiteFault side) = codes "ERROR: volume fault: " ++ side_name side
line_of SinkFault = codes "ERROR: report fault"
line_of NoMemory = codes "ERROR: no memory"
