-- One byte of a record that is written: a gate or a mark.
use Rattle.std.proofs.Common.{◌≡◌, ◌⊎◌, ℕ, suc, ◌+◌, ◌-◌, ◌<◌, ◌≤◌, Bool, true, false, ◌&&◌, ltb, List, [], ◌∷◌, ◌++◌, length, take, drop, get_or, set, Result, Ok, Err, refl, sym, ap, subst, ◌∙◌, append_assoc, length-append, inl, inr, arith}
use Rattle.std.specs.Prelude.{IfOk, slice_get}
use Rattle.std.proofs.lemmas.Bool.{cases_lt, eqb-true}
use Rattle.std.proofs.lemmas.List.{ext_get_or, get_or-set_other, get_or-set_same, length-replicate, length-set, length-take, set-append_right, set-get_or, set_split}
use Rattle.std.proofs.lemmas.Option.{slice_get-get_or}
use Rattle.rc_class.specs.declared.plan.Plan.{Plan}
use Rattle.rc_volume.specs.Images.{AreOnlyNotes, MayLeaveNotes}
use Rattle.rc_volume.specs.Log.{Event, cut, write}
use Rattle.rc_volume.specs.Site.{IsCutBytes, IsTornBytes, Seen}
use Rattle.rc_volume.specs.declared.site.SiteErr.{SiteErr}
use Rattle.rc_record.specs.Grammar.{is_open, stands, stands_at}
use Rattle.rc_record.specs.Moments.{EachNow, EachSince, Grows}
use Rattle.rc_record.specs.Spelling.{closed_record, mark_count, no_marks, open_record, plan_bytes, record_of, IsAllowed, IsTyped}
use Rattle.rc_record.specs.Writing.{mark_number, unmarked, BeginsOpen, HasPlace, IsBegun, IsClearedImage, IsKept, IsMarkedBy, IsMarkedImage, IsOpenOf, IsOpened, LogsStep, StandsFor, StandsForNothing, StandsMarked}
use Rattle.rc_record.specs.declared.marks.MarkPlace.{MarkPlace}
use Rattle.rc_record.proofs.Closed.{begins_closed, closed, closed_cut, no_gate, short, some_is}
use Rattle.rc_record.proofs.Since.{each_only, grows_len, kept_step, now_since, since_step, since_weaker, then_step}
use Rattle.rc_record.proofs.Marked.{image_stands, stands_unmarked}

-- the same byte in two lists
same_at : (one two : List ℕ) (i : ℕ) → i < length one → i < length two → slice_get one i ≡ slice_get two i → get_or one i 0 ≡ get_or two i 0
same_at one two i in_one in_two is = some_is (get_or one i 0) (get_or two i 0) (sym (slice_get-get_or one i 0 in_one) ∙ is ∙ slice_get-get_or two i 0 in_two)

-- a byte that was written, or perhaps another one in its place
pub torn_at : (off : ℕ) (old new : List ℕ) → off < length old → IsTornBytes off 1 old new → new ≡ set old off (get_or new off 0)
torn_at off old new lt by =
    let long : length new ≡ length old = omega (arith, by.no_shorter, by.no_longer, lt) in
    ext_get_or 0 new (set old off (get_or new off 0)) (long ∙ sym (length-set old off (get_or new off 0)))
    (λ i in_new. elim (cases_lt i off) [
      | inl below ↦ same_at new old i in_new (omega (arith, long, in_new)) (by.before i (omega (arith, long, in_new)) below) ∙ sym (get_or-set_other old off i (get_or new off 0) 0 (λ e. omega (arith, e, below)))
      | inr above ↦
          elim (cases_lt off i) [
            | inl behind ↦ same_at new old i in_new (omega (arith, long, in_new)) (by.after i (omega (arith, long, in_new)) (omega (arith, behind))) ∙ sym (get_or-set_other old off i (get_or new off 0) 0 (λ e. omega (arith, e, behind)))
            | inr not_behind ↦
                (let here : off ≡ i = omega (arith, above, not_behind) in
                subst (λ k. get_or new k 0 ≡ get_or (set old off (get_or new off 0)) k 0) here (sym (get_or-set_same old off (get_or new off 0) 0 lt)))
          ]
    ])

-- a byte that was written
pub put_at : (off byte : ℕ) (old : List ℕ) → off < length old → take off old ++ (byte ∷ []) ++ drop (off + 1) old ≡ set old off byte
put_at off byte old lt =
    let next : off + 1 ≡ suc off = omega arith in
    append_assoc (take off old) (byte ∷ []) (drop (off + 1) old) ∙ ap (λ (n : ℕ). take off old ++ byte ∷ drop n old) next ∙ sym (set_split old off byte lt)

pub if_ok : {T E P Q : Type 0} (r : Result T E) → (P → Q) → IfOk r (λ _. P) → IfOk r (λ _. Q)
if_ok (Ok x) f p = f p
if_ok (Err e) f p = tt

-- The gate

tells : (gate : ℕ) (b : Bool) → stands_at gate ≡ b → (gate ≡ 0xA5) ⊎ (stands_at gate ≡ false)
tells gate true is = inl (eqb-true gate 0xA5 is)
tells gate false is = inr is

gate_cases : (gate : ℕ) → (gate ≡ 0xA5) ⊎ (stands_at gate ≡ false)
gate_cases gate = tells gate (stands_at gate) refl

closed_gate : (gate : ℕ) (later : List ℕ) → stands_at gate ≡ false → StandsForNothing (gate ∷ later)
closed_gate gate later is = closed (gate ∷ later) (ap (λ b. ltb 1 (length (gate ∷ later)) && b) is ∙ no_gate (ltb 1 (length (gate ∷ later))))

-- nothing, or the plan with no mark
abbrev pub Opens : Plan → List ℕ → Type 0
Opens plan image = StandsForNothing image ⊎ StandsFor (unmarked plan) image

-- the plan's record with any byte for its gate
any_gate : (plan : Plan) (gate : ℕ) → IsAllowed plan → IsTyped plan → Opens plan (record_of gate plan (no_marks plan))
any_gate plan gate allowed typed = elim (gate_cases gate) [
  | inl opened ↦
      inr (subst (λ g. StandsFor (unmarked plan) (record_of g plan (no_marks plan))) (sym opened) (stands_unmarked plan allowed typed))
  | inr shut ↦ inl (closed_gate gate (plan_bytes plan ++ no_marks plan) shut)
]

gate_torn : (plan : Plan) (old new : List ℕ) → old ≡ closed_record plan → IsTornBytes 0 1 old new → new ≡ record_of (get_or new 0 0) plan (no_marks plan)
gate_torn plan old new is by =
    let some : 0 < length old = omega (arith, ap length is) in
    torn_at 0 old new some by ∙ ap (λ (t : List ℕ). set t 0 (get_or new 0 0)) is

gate_put : (plan : Plan) (old new : List ℕ) → old ≡ closed_record plan → new ≡ take 0 old ++ (0xA5 ∷ []) ++ drop (0 + 1) old → new ≡ open_record plan
gate_put plan old new is put =
    let some : 0 < length old = omega (arith, ap length is) in
    put ∙ put_at 0 0xA5 old some ∙ ap (λ (t : List ℕ). set t 0 0xA5) is

pub open_images : {T : Type 0} (result : Result T SiteErr) (plan : Plan) (old new : Seen) → IsBegun plan old → LogsStep result (write 0 1) new.told.notes old.log new.log
    → IfOk result (λ _. new.told.notes ≡ take 0 old.told.notes ++ (0xA5 ∷ []) ++ drop (0 + 1) old.told.notes) → EachSince new.log (length old.log) (Opens plan)
open_images result plan old new begun logged put =
    since_step result (write 0 1) new.told.notes old.log new.log (Opens plan) logged
    (each_only old.log (closed_record plan) (Opens plan) begun.kept.only (any_gate plan 0 begun.allowed begun.typed))
    (λ before image left by.
    subst (Opens plan) (sym (gate_torn plan before image (begun.kept.only.only before left) by)) (any_gate plan (get_or image 0 0) begun.allowed begun.typed))
    (if_ok result (λ is. subst (Opens plan) (sym (gate_put plan old.told.notes new.told.notes begun.kept.reads is)) (any_gate plan 0xA5 begun.allowed begun.typed)) put)

pub open_kept : {T : Type 0} (result : Result T SiteErr) (plan : Plan) (old new : Seen) → IsBegun plan old → LogsStep result (write 0 1) new.told.notes old.log new.log
    → IfOk result (λ _. new.told.notes ≡ take 0 old.told.notes ++ (0xA5 ∷ []) ++ drop (0 + 1) old.told.notes) → IfOk result (λ _. IsKept (open_record plan) new)
open_kept result plan old new begun logged put = kept_step result (write 0 1) (open_record plan) old new logged (if_ok result (gate_put plan old.told.notes new.told.notes begun.kept.reads) put)

-- Marks

set_mark : (plan : Plan) (marks : List ℕ) (k byte : ℕ) → set (record_of 0xA5 plan marks) (1 + length (plan_bytes plan) + k) byte ≡ record_of 0xA5 plan (set marks k byte)
set_mark plan marks k byte =
    let at : 1 + length (plan_bytes plan) + k - (1 + length (plan_bytes plan)) ≡ k = omega arith in
    set-append_right (0xA5 ∷ plan_bytes plan) marks (1 + length (plan_bytes plan)) (1 + length (plan_bytes plan) + k) byte (omega arith) (omega arith)
    ∙ ap (λ (n : ℕ). (0xA5 ∷ plan_bytes plan) ++ set marks n byte) at

pub mark_within : (plan : Plan) (k : ℕ) (notes : List ℕ) → k < mark_count plan → IsOpenOf plan notes → 1 + length (plan_bytes plan) + k < length notes
mark_within plan k notes lt opened = omega (arith, ap length opened.is, length-append (plan_bytes plan) opened.marks, opened.count, lt)

torn_mark : (plan : Plan) (place : MarkPlace) (old new : List ℕ) → mark_number plan place < mark_count plan → IsOpenOf plan old → IsTornBytes (1 + length (plan_bytes plan) + mark_number plan place) 1 old new
    → IsMarkedBy plan place (get_or new (1 + length (plan_bytes plan) + mark_number plan place) 0) old new
torn_mark plan place old new lt opened by =
    let off : ℕ = 1 + length (plan_bytes plan) + mark_number plan place in
    record {
      marks = opened.marks;
      count = opened.count;
      was = opened.is;
      is = torn_at off old new (mark_within plan (mark_number plan place) old lt opened) by ∙ ap (λ (t : List ℕ). set t off (get_or new off 0)) opened.is ∙ set_mark plan opened.marks (mark_number plan place) (get_or new off 0);
    }

pub put_mark : (plan : Plan) (place : MarkPlace) (old new : List ℕ) → mark_number plan place < mark_count plan → IsOpenOf plan old
    → new ≡ take (1 + length (plan_bytes plan) + mark_number plan place) old ++ (0xA5 ∷ []) ++ drop (1 + length (plan_bytes plan) + mark_number plan place + 1) old → IsMarkedBy plan place 0xA5 old new
put_mark plan place old new lt opened put =
    let off : ℕ = 1 + length (plan_bytes plan) + mark_number plan place in
    record {
      marks = opened.marks;
      count = opened.count;
      was = opened.is;
      is = put ∙ put_at off 0xA5 old (mark_within plan (mark_number plan place) old lt opened) ∙ ap (λ (t : List ℕ). set t off 0xA5) opened.is ∙ set_mark plan opened.marks (mark_number plan place) 0xA5;
    }

-- as it was, with the byte that it had
same_mark : (plan : Plan) (place : MarkPlace) (notes : List ℕ) (opened : IsOpenOf plan notes) → IsMarkedBy plan place (get_or opened.marks (mark_number plan place) 0) notes notes
same_mark plan place notes opened = record {
  marks = opened.marks;
  count = opened.count;
  was = opened.is;
  is = opened.is ∙ ap (record_of 0xA5 plan) (sym (set-get_or opened.marks (mark_number plan place) 0));
}

pub mark_images : {T : Type 0} (result : Result T SiteErr) (plan : Plan) (place : MarkPlace) (off : ℕ) (old new : Seen) → off ≡ 1 + length (plan_bytes plan) + mark_number plan place → mark_number plan place < mark_count plan
    → IsOpened plan old → LogsStep result (write off 1) new.told.notes old.log new.log
    → IfOk result (λ _. new.told.notes ≡ take off old.told.notes ++ (0xA5 ∷ []) ++ drop (off + 1) old.told.notes) → EachSince new.log (length old.log) (IsMarkedImage plan place old.log)
mark_images result plan place off old new here lt opened logged put =
    since_step result (write off 1) new.told.notes old.log new.log (IsMarkedImage plan place old.log) logged
    (λ image left. record { before = image; byte = _; left = left; by = same_mark plan place image (opened.each image left) })
    (λ before image left by. record { before = before; byte = _; left = left; by = torn_mark plan place before image lt (opened.each before left) (subst (λ k. IsTornBytes k 1 before image) here by) })
    (if_ok result (λ is. record { before = old.told.notes; byte = 0xA5; left = opened.left; by = put_mark plan place old.told.notes new.told.notes lt opened.reads (subst (λ k. new.told.notes ≡ take k old.told.notes ++ (0xA5 ∷ []) ++ drop (k + 1) old.told.notes) here is) }) put)

-- what they stand for
pub mark_stands : {T : Type 0} (result : Result T SiteErr) (plan : Plan) (place : MarkPlace) (off : ℕ) (old new : Seen) → IsAllowed plan → HasPlace plan place → off ≡ 1 + length (plan_bytes plan) + mark_number plan place → mark_number plan place < mark_count plan
    → IsOpened plan old → LogsStep result (write off 1) new.told.notes old.log new.log
    → IfOk result (λ _. new.told.notes ≡ take off old.told.notes ++ (0xA5 ∷ []) ++ drop (off + 1) old.told.notes) → EachSince new.log (length old.log) (StandsMarked place old.log)
mark_stands result plan place off old new allowed has here lt opened logged put =
    since_weaker new.log (length old.log) (IsMarkedImage plan place old.log) (StandsMarked place old.log) (λ image marked. image_stands plan place old.log image allowed opened.typed has marked)
    (mark_images result plan place off old new here lt opened logged put)

-- Clearing

pub open_begins : (notes : List ℕ) → is_open notes ≡ true → (later : List ℕ) × (notes ≡ 0xA5 ∷ later)
open_begins [] opened = absurd cc
open_begins (gate ∷ later) opened = elim (gate_cases gate) [
  | inl is ↦ (later, ap (λ g. g ∷ later) is)
  | inr shut ↦ absurd (let no : true ≡ false = sym opened ∙ (ap (λ b. ltb 1 (length (gate ∷ later)) && b) shut ∙ no_gate (ltb 1 (length (gate ∷ later)))) in cc)
]

begins_open : (notes : List ℕ) → BeginsOpen notes → (later : List ℕ) × (notes ≡ 0xA5 ∷ later)
begins_open [] is = absurd cc
begins_open (gate ∷ later) is = (later, ap (λ g. g ∷ later) (some_is gate 0xA5 is))

-- the gate of an open record is written
cleared_torn : (log : List Event) (old new : List ℕ) → MayLeaveNotes log old → BeginsOpen old → IsTornBytes 0 1 old new → IsClearedImage log new
cleared_torn log old new left opened by =
    let begins = begins_open old opened in
    let some : 0 < length old = omega (arith, ap length begins.1) in
    let is : new ≡ get_or new 0 0 ∷ begins.0 = torn_at 0 old new some by ∙ ap (λ (t : List ℕ). set t 0 (get_or new 0 0)) begins.1 in
    elim (gate_cases (get_or new 0 0)) [
      | inl gate ↦ inr (record { before = old; left = left; same = ap stands (is ∙ ap (λ g. g ∷ begins.0) gate ∙ sym begins.1) })
      | inr shut ↦ inl (subst StandsForNothing (sym is) (closed_gate (get_or new 0 0) begins.0 shut))
    ]

-- what reads when it was written
pub closes : (old new : List ℕ) → new ≡ take 0 old ++ (0 ∷ []) ++ drop (0 + 1) old → new ≡ 0 ∷ drop 1 old
closes old new put = put

cut_short : (old new : List ℕ) → length old ≤ 1 → IsCutBytes 0 old new → StandsForNothing new
cut_short old new le by = short new (omega (arith, by.no_longer, le))

pub clear_images : {T : Type 0} (result : Result T SiteErr) (old new : Seen) → EachNow old.log BeginsOpen → LogsStep result (write 0 1) new.told.notes old.log new.log
    → IfOk result (λ _. new.told.notes ≡ take 0 old.told.notes ++ (0 ∷ []) ++ drop (0 + 1) old.told.notes) → EachSince new.log (length old.log) (IsClearedImage old.log)
clear_images result old new each logged put =
    since_step result (write 0 1) new.told.notes old.log new.log (IsClearedImage old.log) logged
    (λ image left. inr (record { before = image; left = left; same = refl }))
    (λ before image left by. cleared_torn old.log before image left (each before left) by)
    (if_ok result (λ is. inl (begins_closed new.told.notes (ap (λ t. slice_get t 0) (closes old.told.notes new.told.notes is)))) put)

-- a record that stands for nothing is cut to one byte
pub cut_one : {T : Type 0} (result : Result T SiteErr) (log : List Event) (old new : Seen) (start : ℕ) → start ≤ length old.log → EachSince old.log start (IsClearedImage log) → AreOnlyNotes old.log old.told.notes → StandsForNothing old.told.notes
    → LogsStep result (cut 1) new.told.notes old.log new.log → IfOk result (λ _. new.told.notes ≡ take 1 old.told.notes) → EachSince new.log start (IsClearedImage log)
cut_one result log old new start le before only nothing logged put =
    then_step result (cut 1) new.told.notes old.log new.log start (IsClearedImage log) le before logged
    (λ was image left by. inl (closed_cut was image (subst StandsForNothing (sym (only.only was left)) nothing) by))
    (if_ok result (λ is. inl (short new.told.notes (omega (arith, ap length is, length-take 1 old.told.notes)))) put)

-- and then to none
pub cut_none : {T : Type 0} (result : Result T SiteErr) (log : List Event) (old new : Seen) (start : ℕ) → start ≤ length old.log → EachSince old.log start (IsClearedImage log) → AreOnlyNotes old.log old.told.notes → length old.told.notes ≤ 1
    → LogsStep result (cut 0) new.told.notes old.log new.log → IfOk result (λ _. new.told.notes ≡ take 0 old.told.notes) → EachSince new.log start (IsClearedImage log)
cut_none result log old new start le before only one logged put =
    then_step result (cut 0) new.told.notes old.log new.log start (IsClearedImage log) le before logged
    (λ was image left by. inl (cut_short was image (subst (λ (t : List ℕ). length t ≤ 1) (sym (only.only was left)) one) by))
    (if_ok result (λ is. inl (short new.told.notes (omega (arith, ap length is)))) put)

pub one_left : (old new : List ℕ) → new ≡ take 1 old → length new ≤ 1
one_left old new is = omega (arith, ap length is, length-take 1 old)

-- A record in which a plan can be marked

marked_open : (plan : Plan) (place : MarkPlace) (byte : ℕ) (old new : List ℕ) → IsMarkedBy plan place byte old new → IsOpenOf plan new
marked_open plan place byte old new by = record {
  marks = set by.marks (mark_number plan place) byte;
  count = length-set by.marks (mark_number plan place) byte ∙ by.count;
  is = by.is;
}

-- it stays so, whatever a mark answers
pub stays_opened : (plan : Plan) (place : MarkPlace) (off : ℕ) (old new : Seen) → off ≡ 1 + length (plan_bytes plan) + mark_number plan place → mark_number plan place < mark_count plan → IsOpened plan old
    → Grows old.log new.log → EachSince new.log (length old.log) (IsMarkedImage plan place old.log) → IsTornBytes off 1 old.told.notes new.told.notes → MayLeaveNotes new.log new.told.notes → IsOpened plan new
stays_opened plan place off old new here lt opened grows images torn left = record {
  typed = opened.typed;
  reads = marked_open plan place _ old.told.notes new.told.notes (torn_mark plan place old.told.notes new.told.notes lt opened.reads (subst (λ k. IsTornBytes k 1 old.told.notes new.told.notes) here torn));
  left = left;
  each = λ image now.
      let marked = now_since new.log (length old.log) (IsMarkedImage plan place old.log) (grows_len old.log new.log grows) images image now in
      marked_open plan place marked.byte marked.before image marked.by;
}

-- it is so once its gate is opened
pub becomes_opened : {T : Type 0} (result : Result T SiteErr) (plan : Plan) (new : Seen) → IsTyped plan → IfOk result (λ _. IsKept (open_record plan) new) → IfOk result (λ _. IsKept (open_record plan) new × IsOpened plan new)
becomes_opened (Ok value) plan new typed kept =
    let fresh : IsOpenOf plan (open_record plan) = record { marks = no_marks plan; count = length-replicate (mark_count plan) 0; is = refl } in (
      kept,
      record {
        typed = typed;
        reads = subst (IsOpenOf plan) (sym kept.reads) fresh;
        left = subst (MayLeaveNotes new.log) (sym kept.reads) kept.only.left;
        each = each_only new.log (open_record plan) (IsOpenOf plan) kept.only fresh;
      },
    )
becomes_opened (Err e) plan new typed kept = tt
