-- Steps of a reading that did not fail, and what they say of what was read.
use Rattle.std.proofs.Common.{◌≡◌, ℕ, ◌+◌, ◌≤◌, Bool, true, false, cond, leb, List, length, take, drop, map, Some, None, Result, Ok, Err, refl, ap, sym, subst, ◌∙◌, arith}
use Rattle.std.proofs.lemmas.Bool.{leb-true}
use Rattle.std.proofs.lemmas.List.{length-map, length-take, length-drop}
use Rattle.rc_class.specs.declared.noted.Noted.{Noted}
use Rattle.rc_class.specs.declared.plan.Plan.{Plan}
use Rattle.rc_record.specs.Fields.{◌>>=◌, field_at}
use Rattle.rc_record.specs.Grammar.{finish_marks, is_open, last_at, marks_at, noted_at, plan_at, stands, stands_at, unit_marks}

-- the value of a step that did not fail
pub bind_ok : {A B : Type 0} (r : Result A ℕ) (f : A → Result B ℕ) (y : B) → (r >>= f) ≡ Ok y → (x : A) × (r ≡ Ok x) × (f x ≡ Ok y)
bind_ok (Ok x) f y e = (x, refl, e)
bind_ok (Err place) f y e = absurd cc

-- a test that did not fail
pub guard_ok : {A : Type 0} (b : Bool) (place : ℕ) (x y : A) → cond b (Ok x) (Err place) ≡ Ok y → (b ≡ true) × (x ≡ y)
guard_ok true place x y e = (refl, cc)
guard_ok false place x y e = absurd cc

abbrev done : {A : Type 0} → A → Result A ℕ
done x = Ok x

pub ok_is : {A : Type 0} (x y : A) → done x ≡ done y → x ≡ y
ok_is x y e = cc

pub field_len : (len off : ℕ) (bytes field : List ℕ) → field_at len off bytes ≡ Ok field → length field ≡ len
unfolding field_at
field_len len off bytes field e =
    let g = guard_ok (leb (off + len) (length bytes)) (length bytes) (take len (drop off bytes)) field e in
    let fits : off + len ≤ length bytes = leb-true _ _ g.0 in
    ap length (sym g.1) ∙ omega (arith, fits, length-take len (drop off bytes), length-drop off bytes)

pub marks_len : (count off : ℕ) (bytes : List ℕ) (marks : List Bool) → marks_at count off bytes ≡ Ok marks → length marks ≡ count
unfolding marks_at
marks_len count off bytes marks e =
    let b = bind_ok (field_at count off bytes) (λ field. Ok (map stands_at field)) marks e in
    ap length (sym (ok_is (map stands_at b.0) marks b.2)) ∙ length-map b.0 stands_at ∙ field_len count off bytes b.0 b.1

-- a record that stands for something is read to its end
opened : (test : Bool) (read : Result Noted ℕ) (noted : Noted) → cond test (read >>= λ noted. Ok (Some noted)) (Ok None) ≡ done (Some noted) → read ≡ Ok noted
opened true (Ok other) noted e = cc
opened true (Err place) noted e = absurd cc
opened false read noted e = absurd cc

pub stands_noted : (bytes : List ℕ) (noted : Noted) → stands bytes ≡ Ok (Some noted) → noted_at bytes ≡ Ok noted
unfolding stands
stands_noted bytes noted e = opened (is_open bytes) (noted_at bytes) noted e

-- what was noted has the plan that was read, and all of its marks
pub record IsNoted (bytes : List ℕ) (noted : Noted) : Type 0 where
  pub plan : Plan × ℕ
  pub read : plan_at bytes ≡ Ok plan
  pub same : noted.plan ≡ plan.0
  pub units : length noted.units ≡ unit_marks noted.plan
  pub finished : length noted.finished ≡ finish_marks noted.plan

pub is_noted : (bytes : List ℕ) (noted : Noted) → noted_at bytes ≡ Ok noted → IsNoted bytes noted
unfolding noted_at
is_noted bytes noted e =
    let plan = bind_ok (plan_at bytes) (λ plan. marks_at (unit_marks plan.0) plan.1 bytes >>= λ units. marks_at (finish_marks plan.0) (plan.1 + unit_marks plan.0) bytes >>= λ finished. last_at (plan.1 + unit_marks plan.0 + finish_marks plan.0) bytes >>= λ last. Ok (record { plan = plan.0; units = units; finished = finished; last = last })) noted e in
    let units = bind_ok (marks_at (unit_marks plan.0.0) plan.0.1 bytes) (λ units. marks_at (finish_marks plan.0.0) (plan.0.1 + unit_marks plan.0.0) bytes >>= λ finished. last_at (plan.0.1 + unit_marks plan.0.0 + finish_marks plan.0.0) bytes >>= λ last. Ok (record { plan = plan.0.0; units = units; finished = finished; last = last })) noted plan.2 in
    let finished = bind_ok (marks_at (finish_marks plan.0.0) (plan.0.1 + unit_marks plan.0.0) bytes) (λ finished. last_at (plan.0.1 + unit_marks plan.0.0 + finish_marks plan.0.0) bytes >>= λ last. Ok (record { plan = plan.0.0; units = units.0; finished = finished; last = last })) noted units.2 in
    let last = bind_ok (last_at (plan.0.1 + unit_marks plan.0.0 + finish_marks plan.0.0) bytes) (λ last. Ok (record { plan = plan.0.0; units = units.0; finished = finished.0; last = last })) noted finished.2 in
    let made : Noted = record { plan = plan.0.0; units = units.0; finished = finished.0; last = last.0 } in
    subst (IsNoted bytes) {x = made} (ok_is made noted last.2) (record {
      plan = plan.0;
      read = plan.1;
      same = refl;
      units = marks_len (unit_marks plan.0.0) plan.0.1 bytes units.0 units.1;
      finished = marks_len (finish_marks plan.0.0) (plan.0.1 + unit_marks plan.0.0) bytes finished.0 finished.1;
    })
