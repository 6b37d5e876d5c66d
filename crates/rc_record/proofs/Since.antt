-- What a stop might have left of the record since a moment, as the log grows.
use Rattle.std.proofs.Common.{◌≡◌, ℕ, Bool, ◌≤◌, List, [], ◌∷◌, ◌++◌, length, take, Result, Ok, Err, refl, sym, ap, subst, ◌∙◌, append_assoc, append-nil, length-append, inl, inr, arith}
use Rattle.std.specs.Prelude.{IfOk}
use Rattle.std.proofs.lemmas.Bool.{cases_lt}
use Rattle.std.proofs.lemmas.List.{take_all, take-append-le}
use Rattle.rc_volume.proofs.ImageLemmas.{each_notes_step, logs_then, one_notes_step, only_notes}
use Rattle.rc_volume.proofs.ReadLemmas.{cut_steps, write_steps}
use Rattle.rc_volume.specs.Faults.{Cause, Counts, free, never, on, quiet}
use Rattle.rc_volume.specs.declared.site.Part.{Part}
use Rattle.rc_volume.specs.declared.site.Part.TheVariants.{Record}
use Rattle.rc_volume.specs.Images.{AreOnlyNotes, MayLeaveNotes, StepsNotes}
use Rattle.rc_volume.specs.Log.{Event, Logs, LogsSync, NotesCall, cut, noted, notes_synced, write}
use Rattle.rc_volume.specs.Site.{Cuts, Seen, Told, Writes}
use Rattle.rc_volume.specs.declared.site.SiteErr.{SiteErr}
use Rattle.rc_volume.specs.declared.site.SiteErr.TheVariants.{Failed, NoMemory}
use Rattle.rc_record.specs.Moments.{EachNow, EachSince, Grows}
use Rattle.rc_record.specs.Writing.{ChangesRecord, IsKept, LogsCall, LogsStep, ReadsLeft}

-- Growing

pub grows_not : (old new : List Event) → new ≡ old → Grows old new
grows_not old new same = ([], same ∙ sym (append-nil old))

pub grows_by : (old new : List Event) (event : Event) → new ≡ old ++ event ∷ [] → Grows old new
grows_by old new event logged = (event ∷ [], logged)

pub grows_on : (old mid new : List Event) → Grows old mid → Grows mid new → Grows old new
grows_on old mid new one two =
    (one.0 ++ two.0, two.1 ∙ ap (λ (t : List Event). t ++ two.0) one.1 ∙ append_assoc old one.0 two.0)

pub grows_call : (call : NotesCall) (old new : List Event) → LogsCall call old new → Grows old new
grows_call call old new (inl same) = grows_not old new same
grows_call call old new (inr logged) = grows_by old new (noted call) logged

pub grows_sync : {T : Type 0} (result : Result T SiteErr) (notes : List ℕ) (old new : List Event) → LogsSync result (notes_synced notes) old new → Grows old new
grows_sync (Ok value) notes old new logged = grows_by old new (notes_synced notes) logged
grows_sync (Err e) notes old new same = grows_not old new same

pub grows_step : {T : Type 0} (result : Result T SiteErr) (call : NotesCall) (notes : List ℕ) (old new : List Event) → LogsStep result call notes old new → Grows old new
grows_step (Ok value) call notes old new logged = (noted call ∷ (notes_synced notes ∷ []), logged)
grows_step (Err e) call notes old new logged = grows_call call old new logged

pub grows_len : (old new : List Event) → Grows old new → length old ≤ length new
grows_len old new grows = omega (arith, ap length grows.1, length-append old grows.0)

-- what a changing call logs, whatever it answers
pub call_logged : {T : Type 0} (result : Result T SiteErr) (call : NotesCall) (old new : List Event) → Logs result (noted call) old new → LogsCall call old new
call_logged (Ok value) call old new logged = inr logged
call_logged (Err Failed) call old new logged = inr logged
call_logged (Err NoMemory) call old new logged = logged

-- Now and since

pub since_now : (log : List Event) (holds : List ℕ → Type 0) → EachNow log holds → EachSince log (length log) holds
since_now log holds each image since = each image (subst (λ l. MayLeaveNotes l image) (take_all since.moment log since.later) since.left)

pub now_since : (log : List Event) (start : ℕ) (holds : List ℕ → Type 0) → start ≤ length log → EachSince log start holds → EachNow log holds
now_since log start holds le each image left = each image (record {
  moment = length log;
  later = le;
  passed = omega arith;
  left = subst (λ l. MayLeaveNotes l image) (sym (take_all (length log) log (omega arith))) left;
})

pub since_weaker : (log : List Event) (start : ℕ) (one two : List ℕ → Type 0) → ((image : List ℕ) → one image → two image) → EachSince log start one → EachSince log start two
since_weaker log start one two weaker each image since = weaker image (each image since)

-- what held since a moment holds on, where it holds since the log was this long
pub since_on : (old new : List Event) (start : ℕ) (holds : List ℕ → Type 0) → Grows old new → EachSince old start holds → EachSince new (length old) holds → EachSince new start holds
since_on old new start holds grows before after image since = elim (cases_lt since.moment (length old)) [
  | inl lt ↦
      before image (record {
        moment = since.moment;
        later = since.later;
        passed = omega (arith, lt);
        left = subst (λ l. MayLeaveNotes l image) (ap (take since.moment) grows.1 ∙ take-append-le since.moment old grows.0 (omega (arith, lt))) since.left;
      })
  | inr ge ↦ after image (record { moment = since.moment; later = ge; passed = since.passed; left = since.left })
]

-- One event more

one_more : (old : List Event) (event : Event) (holds : List ℕ → Type 0) → EachNow old holds → EachNow (old ++ event ∷ []) holds → EachSince (old ++ event ∷ []) (length old) holds
one_more old event holds before after image since = elim (cases_lt (length old) since.moment) [
  | inl lt ↦
      (let all : length (old ++ event ∷ []) ≤ since.moment = omega (arith, lt, length-append old (event ∷ [])) in
      after image (subst (λ l. MayLeaveNotes l image) (take_all since.moment (old ++ event ∷ []) all) since.left))
  | inr ge ↦
      before image (subst (λ l. MayLeaveNotes l image) (take-append-le since.moment old (event ∷ []) ge ∙ take_all since.moment old since.later) since.left)
]

-- what the call makes of what was left before it holds
abbrev pub HoldsBehind : List Event → NotesCall → (List ℕ → Type 0) → Type 0
HoldsBehind log call holds = (before image : List ℕ) → MayLeaveNotes log before → StepsNotes call before image → holds image

now_call : (old : List Event) (call : NotesCall) (holds : List ℕ → Type 0) → HoldsBehind old call holds → EachNow (old ++ noted call ∷ []) holds
now_call old call holds behind image left = let step = one_notes_step old call image left in behind step.0 image step.1 step.2

now_sync : (old : List Event) (notes : List ℕ) (holds : List ℕ → Type 0) → holds notes → EachNow (old ++ notes_synced notes ∷ []) holds
now_sync old notes holds is image left = subst holds (sym ((only_notes old notes).only image left)) is

pub since_call : (call : NotesCall) (old new : List Event) (holds : List ℕ → Type 0) → LogsCall call old new → EachNow old holds → HoldsBehind old call holds → EachSince new (length old) holds
since_call call old new holds (inl same) before behind = subst (λ log. EachSince log (length old) holds) (sym same) (since_now old holds before)
since_call call old new holds (inr logged) before behind = subst (λ log. EachSince log (length old) holds) (sym logged) (one_more old (noted call) holds before (now_call old call holds behind))

pub since_sync : {T : Type 0} (result : Result T SiteErr) (notes : List ℕ) (old new : List Event) (holds : List ℕ → Type 0) → LogsSync result (notes_synced notes) old new → EachNow old holds → holds notes → EachSince new (length old) holds
since_sync (Ok value) notes old new holds logged before is = subst (λ log. EachSince log (length old) holds) (sym logged) (one_more old (notes_synced notes) holds before (now_sync old notes holds is))
since_sync (Err e) notes old new holds same before is = subst (λ log. EachSince log (length old) holds) (sym same) (since_now old holds before)

two_events : (old : List Event) (one two : Event) → old ++ (one ∷ (two ∷ [])) ≡ (old ++ one ∷ []) ++ two ∷ []
two_events old one two = sym (append_assoc old (one ∷ []) (two ∷ []))

-- a call with a sync behind it
pub since_step : {T : Type 0} (result : Result T SiteErr) (call : NotesCall) (notes : List ℕ) (old new : List Event) (holds : List ℕ → Type 0) → LogsStep result call notes old new
    → EachNow old holds → HoldsBehind old call holds → IfOk result (λ _. holds notes) → EachSince new (length old) holds
since_step (Ok value) call notes old new holds logged before behind is =
    let mid = old ++ noted call ∷ [] in
    let one : EachSince mid (length old) holds = since_call call old mid holds (inr refl) before behind in
    let le : length old ≤ length mid = omega (arith, length-append old (noted call ∷ [])) in
    let two : EachSince (mid ++ notes_synced notes ∷ []) (length mid) holds = one_more mid (notes_synced notes) holds (now_since mid (length old) holds le one) (now_sync mid notes holds is) in
    subst (λ log. EachSince log (length old) holds) (sym (logged ∙ two_events old (noted call) (notes_synced notes)))
    (since_on mid (mid ++ notes_synced notes ∷ []) (length old) holds (notes_synced notes ∷ [], refl) one two)
since_step (Err e) call notes old new holds logged before behind is = since_call call old new holds logged before behind

-- and what is left behind it
pub only_step : (call : NotesCall) (notes : List ℕ) (old new : List Event) → new ≡ old ++ (noted call ∷ (notes_synced notes ∷ [])) → AreOnlyNotes new notes
only_step call notes old new logged =
    subst (λ log. AreOnlyNotes log notes) (sym (logged ∙ two_events old (noted call) (notes_synced notes))) (only_notes (old ++ noted call ∷ []) notes)

pub only_sync : (notes : List ℕ) (old new : List Event) → new ≡ old ++ notes_synced notes ∷ [] → AreOnlyNotes new notes
only_sync notes old new logged = subst (λ log. AreOnlyNotes log notes) (sym logged) (only_notes old notes)

-- the only image
pub each_only : (log : List Event) (notes : List ℕ) (holds : List ℕ → Type 0) → AreOnlyNotes log notes → holds notes → EachNow log holds
each_only log notes holds only is image left = subst holds (sym (only.only image left)) is

-- One step behind others

pub then_call : (call : NotesCall) (old new : List Event) (start : ℕ) (holds : List ℕ → Type 0) → start ≤ length old → EachSince old start holds → LogsCall call old new → HoldsBehind old call holds → EachSince new start holds
then_call call old new start holds le before logged behind =
    since_on old new start holds (grows_call call old new logged) before (since_call call old new holds logged (now_since old start holds le before) behind)

pub then_sync : {T : Type 0} (result : Result T SiteErr) (notes : List ℕ) (old new : List Event) (start : ℕ) (holds : List ℕ → Type 0) → start ≤ length old → EachSince old start holds
    → LogsSync result (notes_synced notes) old new → holds notes → EachSince new start holds
then_sync result notes old new start holds le before logged is =
    since_on old new start holds (grows_sync result notes old new logged) before (since_sync result notes old new holds logged (now_since old start holds le before) is)

pub then_step : {T : Type 0} (result : Result T SiteErr) (call : NotesCall) (notes : List ℕ) (old new : List Event) (start : ℕ) (holds : List ℕ → Type 0) → start ≤ length old → EachSince old start holds
    → LogsStep result call notes old new → HoldsBehind old call holds → IfOk result (λ _. holds notes) → EachSince new start holds
then_step result call notes old new start holds le before logged behind is =
    since_on old new start holds (grows_step result call notes old new logged) before (since_step result call notes old new holds logged (now_since old start holds le before) behind is)

-- What is kept

pub kept_step : {T : Type 0} (result : Result T SiteErr) (call : NotesCall) (notes : List ℕ) (old new : Seen) → LogsStep result call new.told.notes old.log new.log → IfOk result (λ _. new.told.notes ≡ notes) → IfOk result (λ _. IsKept notes new)
kept_step (Ok value) call notes old new logged is = record { reads = is; only = subst (AreOnlyNotes new.log) is (only_step call new.told.notes old.log new.log logged) }
kept_step (Err e) call notes old new logged is = tt

pub kept_sync : {T : Type 0} (result : Result T SiteErr) (notes : List ℕ) (old new : Seen) → LogsSync result (notes_synced old.told.notes) old.log new.log → new.told ≡ old.told → old.told.notes ≡ notes → IfOk result (λ _. IsKept notes new)
kept_sync (Ok value) notes old new logged same is = record {
  reads = ap (λ (told : Told). told.notes) same ∙ is;
  only = subst (AreOnlyNotes new.log) is (only_sync old.told.notes old.log new.log logged);
}
kept_sync (Err e) notes old new logged same is = tt

pub only_if : {T : Type 0} (result : Result T SiteErr) (call : NotesCall) (notes : List ℕ) (old new : List Event) → LogsStep result call notes old new → IfOk result (λ _. AreOnlyNotes new notes)
only_if (Ok value) call notes old new logged = only_step call notes old new logged
only_if (Err e) call notes old new logged = tt

-- Frames

counts_from : (cause : Cause) (a b c : Part → ℕ) → ((part : Part) → b part ≡ a part) → Counts cause b c → Counts cause a c
counts_from quiet a b c same counts = λ part. counts part ∙ same part
counts_from free a b c same counts = λ part. omega (arith, counts part, same part)
counts_from (on at n) a b c same counts = (omega (arith, counts.0, same at), λ part. omega (arith, counts.1 part, same part))
counts_from never a b c same counts = counts

-- a change of the record behind one in which no count rose
pub changes_then : (tells : Bool) (cause : Cause) (old mid new : Seen) → ChangesRecord tells quiet old mid → ChangesRecord tells cause mid new → ChangesRecord tells cause old new
changes_then tells cause old mid new one two = record {
  here = λ told. tt;
  source = λ told. two.source told ∙ one.source told;
  target = λ told. two.target told ∙ one.target told;
  log = λ told. logs_then Record old.log mid.log new.log (one.log told) (two.log told);
  opened = two.opened ∙ one.opened;
  bound = two.bound ∙ one.bound;
  counts = counts_from cause old.faults mid.faults new.faults one.counts two.counts;
}

-- What reads stays something that a stop may leave

pub left_by_write : {T : Type 0} (result : Result T SiteErr) (off : ℕ) (bytes : List ℕ) (old new : Seen) → off ≤ length old.told.notes → Writes result off bytes old.told.notes new.told.notes
    → Logs result (noted (write off (length bytes))) old.log new.log → ReadsLeft old → ReadsLeft new
left_by_write (Ok value) off bytes old new le by logged left =
    subst (λ log. MayLeaveNotes log new.told.notes) (sym logged) (each_notes_step old.log (write off (length bytes)) old.told.notes new.told.notes left (write_steps (Ok value) off bytes old.told.notes new.told.notes le by))
left_by_write (Err Failed) off bytes old new le by logged left =
    subst (λ log. MayLeaveNotes log new.told.notes) (sym logged) (each_notes_step old.log (write off (length bytes)) old.told.notes new.told.notes left by)
left_by_write (Err NoMemory) off bytes old new le by (inl same) left = subst (λ log. MayLeaveNotes log new.told.notes) (sym same) (subst (MayLeaveNotes old.log) (sym by) left)
left_by_write {T} (Err NoMemory) off bytes old new le by (inr logged) left =
    subst (λ log. MayLeaveNotes log new.told.notes) (sym logged)
    (each_notes_step old.log (write off (length bytes)) old.told.notes new.told.notes left (write_steps {T = T} (Err NoMemory) off bytes old.told.notes new.told.notes le by))

pub left_by_cut : {T : Type 0} (result : Result T SiteErr) (len : ℕ) (old new : Seen) → Cuts result len old.told.notes new.told.notes → Logs result (noted (cut len)) old.log new.log → ReadsLeft old → ReadsLeft new
left_by_cut (Ok value) len old new by logged left =
    subst (λ log. MayLeaveNotes log new.told.notes) (sym logged) (each_notes_step old.log (cut len) old.told.notes new.told.notes left (cut_steps (Ok value) len old.told.notes new.told.notes by))
left_by_cut (Err Failed) len old new by logged left =
    subst (λ log. MayLeaveNotes log new.told.notes) (sym logged) (each_notes_step old.log (cut len) old.told.notes new.told.notes left by)
left_by_cut (Err NoMemory) len old new by (inl same) left = subst (λ log. MayLeaveNotes log new.told.notes) (sym same) (subst (MayLeaveNotes old.log) (sym by) left)
left_by_cut {T} (Err NoMemory) len old new by (inr logged) left =
    subst (λ log. MayLeaveNotes log new.told.notes) (sym logged) (each_notes_step old.log (cut len) old.told.notes new.told.notes left (cut_steps {T = T} (Err NoMemory) len old.told.notes new.told.notes by))

pub left_by_look : (old new : Seen) → new.told ≡ old.told → new.log ≡ old.log → ReadsLeft old → ReadsLeft new
left_by_look old new told same left = subst (λ log. MayLeaveNotes log new.told.notes) (sym same) (subst (λ (told : Told). MayLeaveNotes old.log told.notes) (sym told) left)

pub left_by_sync : {T : Type 0} (result : Result T SiteErr) (old new : Seen) → LogsSync result (notes_synced old.told.notes) old.log new.log → new.told ≡ old.told → ReadsLeft old → ReadsLeft new
left_by_sync (Ok value) old new logged same left = subst (MayLeaveNotes new.log) (sym (ap (λ (told : Told). told.notes) same)) (only_sync old.told.notes old.log new.log logged).left
left_by_sync (Err e) old new logged same left = subst (MayLeaveNotes new.log) (sym (ap (λ (told : Told). told.notes) same)) (subst (λ log. MayLeaveNotes log old.told.notes) (sym logged) left)
