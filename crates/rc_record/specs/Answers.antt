-- What the calls that read a record answer.
use Rattle.std.specs.Prelude.{◌≡◌, ◌⊎◌, ℕ, List, [], ◌∷◌, ◌++◌, Result, Ok, Err}
use Rattle.rc_volume.specs.declared.site.Part.TheVariants.{Record}
use Rattle.rc_volume.specs.declared.site.SiteErr.{SiteErr}
use Rattle.rc_volume.specs.declared.site.SiteErr.TheVariants as site_err
use Rattle.rc_volume.specs.Faults.{Cause, never, on, quiet}
use Rattle.rc_volume.specs.Images.{AreOnlyNotes}
use Rattle.rc_volume.specs.Log.{Event, notes_synced}
use Rattle.rc_record.specs.declared.err.RecordErr.{RecordErr}
use Rattle.rc_record.specs.declared.err.RecordErr.TheVariants.{BadRecord, NoMemory, RecordFault}

-- what a call answers, seen by view, is what reading gives: the value, or the place, unless the record's calls failed or
-- memory ran out
abbrev pub Fails : {Y : Type 0} → RecordErr → Result Y ℕ → Type 0
Fails (BadRecord place) read = read ≡ Err place
Fails RecordFault read = Unit {0}
Fails NoMemory read = Unit {0}

abbrev pub Gives : {X Y : Type 0} → (X → Y) → Result X RecordErr → Result Y ℕ → Type 0
Gives view (Ok x) read = read ≡ Ok (view x)
Gives view (Err e) read = Fails e read

-- the same of a call that takes no memory
abbrev pub Shows : {X Y : Type 0} → (X → Y) → Result X ℕ → Result Y ℕ → Type 0
Shows view (Ok x) read = read ≡ Ok (view x)
Shows view (Err place) read = read ≡ Err place

-- no fault of the record's calls comes from bytes alone
abbrev pub IsOfBytes : RecordErr → Type 0
IsOfBytes (BadRecord place) = Unit {0}
IsOfBytes RecordFault = ⊥
IsOfBytes NoMemory = Unit {0}

-- a fault of the record comes only where its count rose, and no other answer raises a count
abbrev pub record_cause : {T : Type 0} → Result T RecordErr → Cause
record_cause (Err RecordFault) = on Record 1
record_cause other = quiet

-- the same of a call that reads nothing of the record
abbrev pub write_cause : {T : Type 0} → Result T RecordErr → Cause
write_cause (Err (BadRecord place)) = never
write_cause other = record_cause other

-- a sync of what reads is in the log, and after an error at most that
abbrev pub LogsSynced : {T : Type 0} → Result T SiteErr → List ℕ → List Event → List Event → Type 0
LogsSynced (Ok value) notes old new = new ≡ old ++ notes_synced notes ∷ []
LogsSynced (Err e) notes old new = (new ≡ old) ⊎ (new ≡ old ++ notes_synced notes ∷ [])

-- the record is synced before it is answered what it stands for: a sync of what reads is in the log, and after an error
-- of the site at most that
abbrev pub LogsLoad : {T : Type 0} → Result T RecordErr → List ℕ → List Event → List Event → Type 0
LogsLoad (Ok value) notes old new = new ≡ old ++ notes_synced notes ∷ []
LogsLoad (Err (BadRecord place)) notes old new = new ≡ old ++ notes_synced notes ∷ []
LogsLoad (Err RecordFault) notes old new = (new ≡ old) ⊎ (new ≡ old ++ notes_synced notes ∷ [])
LogsLoad (Err NoMemory) notes old new = (new ≡ old) ⊎ (new ≡ old ++ notes_synced notes ∷ [])

-- where it is answered what the record stands for, a stop leaves of it what reads, and nothing else
abbrev pub IsDecided : {T : Type 0} → Result T RecordErr → List Event → List ℕ → Type 0
IsDecided (Ok value) log notes = AreOnlyNotes log notes
IsDecided (Err (BadRecord place)) log notes = AreOnlyNotes log notes
IsDecided (Err RecordFault) log notes = Unit {0}
IsDecided (Err NoMemory) log notes = Unit {0}

-- the answer where a call on the record gave this error
abbrev pub fault_of : SiteErr → RecordErr
fault_of site_err.Failed = RecordFault
fault_of site_err.NoMemory = NoMemory
