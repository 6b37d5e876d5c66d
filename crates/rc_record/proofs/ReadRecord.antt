-- A record that stands for something is an open one of its plan.
use Rattle.std.proofs.Common.{◌≡◌, ℕ, ◌+◌, Bool, true, cond, List, [], ◌∷◌, ◌++◌, length, get_or, Ok, Err, refl, sym, ap, subst, ◌∙◌, length-append, arith}
use Rattle.std.specs.Prelude.{◌==◌}
use Rattle.std.proofs.lemmas.Bool.{eqb-true}
use Rattle.rc_class.specs.declared.noted.Noted.{Noted}
use Rattle.rc_record.specs.Fields.{◌>>=◌, byte_at}
use Rattle.rc_record.specs.Grammar.{finish_marks, is_open, last_at, marks_at, noted_at, plan_at, stands_at, unit_marks}
use Rattle.rc_record.specs.Spelling.{plan_bytes}
use Rattle.rc_record.specs.Writing.{IsRecordOf}
use Rattle.rc_record.proofs.MarkBytes.{open_begins}
use Rattle.rc_record.proofs.ReadItem.{AreBytes}
use Rattle.rc_record.proofs.ReadPlan.{plan_has}
use Rattle.rc_record.proofs.Steps.{bind_ok, guard_ok, ok_is}

ends_here : (off : ℕ) (bytes : List ℕ) (last : Bool) → last_at off bytes ≡ Ok last → length bytes ≡ off + 1
unfolding last_at
ends_here off bytes last e =
    let gate = bind_ok (byte_at off bytes) (λ gate. cond (length bytes == off + 1) (Ok (stands_at gate)) (Err (off + 1))) last e in
    let g = guard_ok (length bytes == off + 1) (off + 1) (stands_at gate.0) last gate.2 in
    eqb-true (length bytes) (off + 1) g.0

record NotedRead (bytes : List ℕ) (noted : Noted) : Type 0 where
  pub end : ℕ
  pub read : plan_at bytes ≡ Ok (noted.plan, end)
  pub long : length bytes ≡ end + unit_marks noted.plan + finish_marks noted.plan + 1

noted_has : (bytes : List ℕ) (noted : Noted) → noted_at bytes ≡ Ok noted → NotedRead bytes noted
unfolding noted_at
noted_has bytes noted e =
    let plan = bind_ok (plan_at bytes) (λ plan. marks_at (unit_marks plan.0) plan.1 bytes >>= λ units. marks_at (finish_marks plan.0) (plan.1 + unit_marks plan.0) bytes >>= λ finished. last_at (plan.1 + unit_marks plan.0 + finish_marks plan.0) bytes >>= λ last. Ok (record { plan = plan.0; units = units; finished = finished; last = last })) noted e in
    let units = bind_ok (marks_at (unit_marks plan.0.0) plan.0.1 bytes) (λ units. marks_at (finish_marks plan.0.0) (plan.0.1 + unit_marks plan.0.0) bytes >>= λ finished. last_at (plan.0.1 + unit_marks plan.0.0 + finish_marks plan.0.0) bytes >>= λ last. Ok (record { plan = plan.0.0; units = units; finished = finished; last = last })) noted plan.2 in
    let finished = bind_ok (marks_at (finish_marks plan.0.0) (plan.0.1 + unit_marks plan.0.0) bytes) (λ finished. last_at (plan.0.1 + unit_marks plan.0.0 + finish_marks plan.0.0) bytes >>= λ last. Ok (record { plan = plan.0.0; units = units.0; finished = finished; last = last })) noted units.2 in
    let last = bind_ok (last_at (plan.0.1 + unit_marks plan.0.0 + finish_marks plan.0.0) bytes) (λ last. Ok (record { plan = plan.0.0; units = units.0; finished = finished.0; last = last })) noted finished.2 in
    let made : Noted = record { plan = plan.0.0; units = units.0; finished = finished.0; last = last.0 } in
    subst (NotedRead bytes) {x = made} {y = noted} (ok_is made noted last.2) (record {
      end = plan.0.1;
      read = plan.1;
      long = ends_here (plan.0.1 + unit_marks plan.0.0 + finish_marks plan.0.0) bytes last.0 last.1;
    })

single : (front : List ℕ) → length front ≡ 1 → (x : ℕ) × (front ≡ x ∷ [])
single [] e = absurd (omega (arith, e))
single (x ∷ []) e = (x, refl)
single (x ∷ y ∷ front) e = absurd (omega (arith, e))

pub record_has : (bytes : List ℕ) (noted : Noted) → AreBytes bytes → is_open bytes ≡ true → noted_at bytes ≡ Ok noted → IsRecordOf noted.plan bytes
record_has bytes noted all opened e =
    let read = noted_has bytes noted e in
    let plan = plan_has bytes (noted.plan, read.end) all read.read in
    let gate = open_begins bytes opened in
    let front = single plan.here.front plan.here.at in
    let whole : bytes ≡ front.0 ∷ (plan_bytes noted.plan ++ plan.here.rest) = plan.here.is ∙ ap (λ (t : List ℕ). t ++ (plan_bytes noted.plan ++ plan.here.rest)) front.1 in
    let is_gate : front.0 ≡ 0xA5 = ap (λ (t : List ℕ). get_or t 0 0) (sym whole ∙ gate.1) in
    record {
      allowed = plan.allowed;
      typed = plan.typed;
      opened = record {
        marks = plan.here.rest;
        count = omega (arith, read.long, plan.end, ap length whole, length-append (plan_bytes noted.plan) plan.here.rest);
        is = whole ∙ ap (λ g. g ∷ (plan_bytes noted.plan ++ plan.here.rest)) is_gate;
      };
    }
