-- What a stop leaves of the record once it was synced.
use Rattle.std.proofs.Common.{◌≡◌, ℕ, List, [], ◌∷◌, ◌++◌, Option, Some, None, Result, Ok, Err, sym, subst}
use Rattle.std.specs.Prelude.{IfOk, IfSome}
use Rattle.rc_class.specs.declared.noted.Noted.{Noted}
use Rattle.rc_volume.proofs.ImageLemmas.{only_notes}
use Rattle.rc_volume.specs.Images.{AreOnlyNotes}
use Rattle.rc_volume.specs.Log.{Event, notes_synced}
use Rattle.rc_volume.specs.Site.{Seen, Told}
use Rattle.rc_record.specs.declared.err.RecordErr.{RecordErr}
use Rattle.rc_record.specs.declared.err.RecordErr.TheVariants.{BadRecord, NoMemory, RecordFault}
use Rattle.rc_record.specs.Answers.{IsDecided}
use Rattle.rc_record.specs.Spelling.{IsAllowed}
use Rattle.rc_record.specs.Writing.{IsOpenOf, IsOpened, IsRecordOf}
use Rattle.rc_record.proofs.Since.{each_only}

only_synced : (old new : List Event) (before after : Told) → new ≡ old ++ notes_synced before.notes ∷ [] → after ≡ before → AreOnlyNotes new after.notes
only_synced old new before after logged same =
    subst (λ (told : Told). AreOnlyNotes new told.notes) (sym same) (subst (λ log. AreOnlyNotes log before.notes) (sym logged) (only_notes old before.notes))

pub decided : {T : Type 0} (result : Result T RecordErr) (old new : List Event) (before after : Told) → new ≡ old ++ notes_synced before.notes ∷ [] → after ≡ before → IsDecided result new after.notes
decided (Ok value) old new before after logged same = only_synced old new before after logged same
decided (Err (BadRecord place)) old new before after logged same = only_synced old new before after logged same
decided (Err RecordFault) old new before after logged same = tt
decided (Err NoMemory) old new before after logged same = tt

-- The plan that was read

-- these bytes are an open record of the plan that is answered, if any
abbrev HasRecord : Result (Option Noted) RecordErr → List ℕ → Type 0
HasRecord result bytes = IfOk result (λ note. IfSome note (λ note. IsRecordOf note.plan bytes))

pub plan_allowed : (result : Result (Option Noted) RecordErr) (bytes : List ℕ) → HasRecord result bytes → IfOk result (λ note. IfSome note (λ note. IsAllowed note.plan))
plan_allowed (Ok (Some note)) bytes has = has.allowed
plan_allowed (Ok None) bytes has = tt
plan_allowed (Err e) bytes has = tt

-- it can be marked in the record that reads so
pub plan_opened : (result : Result (Option Noted) RecordErr) (bytes : List ℕ) (new : Seen) → HasRecord result bytes → bytes ≡ new.told.notes → IsDecided result new.log new.told.notes
    → IfOk result (λ note. IfSome note (λ note. IsOpened note.plan new))
plan_opened (Ok (Some note)) bytes new has same only =
    let reads : IsOpenOf note.plan new.told.notes = subst (IsOpenOf note.plan) same has.opened in
    record { typed = has.typed; reads = reads; left = only.left; each = each_only new.log new.told.notes (IsOpenOf note.plan) only reads }
plan_opened (Ok None) bytes new has same only = tt
plan_opened (Err e) bytes new has same only = tt
