-- What the record of a plan stands for, by its marks.
use Rattle.std.proofs.Common.{◌≡◌, ℕ, ◌+◌, List, [], ◌∷◌, ◌++◌, length, map, take, drop, get_or, Some, Ok, refl, sym, ap, subst, ◌∙◌, arith}
use Rattle.std.specs.Prelude.{slice_index}
use Rattle.std.proofs.lemmas.Bool.{lt-ltb}
use Rattle.std.proofs.lemmas.List.{append-nil, drop-drop, drop_all, drop_more, length-append, length-drop, length-take, take-append-drop}
use Rattle.rc_class.specs.declared.plan.Plan.{Plan}
use Rattle.rc_record.specs.Grammar.{finish_marks, last_at, marks_at, noted_at, stands, stands_at, unit_marks}
use Rattle.rc_record.specs.Spelling.{mark_count, noted_by, plan_bytes, record_of, IsAllowed, IsTyped}
use Rattle.rc_record.proofs.Attributes.{same_number}
use Rattle.rc_record.proofs.Places.{HasAt, byte_read, field_read, has_first, has_second, moved}
use Rattle.rc_record.proofs.SpelledPlan.{plan_read}

marks_read : (count off : ℕ) (marks bytes : List ℕ) → length marks ≡ count → HasAt off marks bytes → marks_at count off bytes ≡ Ok (map stands_at marks)
unfolding marks_at
marks_read count off marks bytes len h = rw (sym len, field_read off marks bytes h) refl

last_read : (off gate : ℕ) (bytes : List ℕ) → length bytes ≡ off + 1 → HasAt off (gate ∷ []) bytes → last_at off bytes ≡ Ok (stands_at gate)
unfolding last_at
last_read off gate bytes end h = rw (byte_read off gate [] bytes h, same_number (length bytes) (off + 1) end) refl

-- marks in their three parts
parts : (marks : List ℕ) (units copies : ℕ) → length marks ≡ units + copies + 1 → marks ≡ take units marks ++ (take copies (drop units marks) ++ (slice_index marks (units + copies) ∷ []))
parts marks units copies len =
    let later : drop copies (drop units marks) ≡ drop (units + copies) marks = drop-drop copies units marks in
    let last : drop (units + copies) marks ≡ get_or marks (units + copies) 0 ∷ drop (units + copies + 1) marks = drop_more marks (units + copies) 0 (omega (arith, len)) in
    let end : drop (units + copies + 1) marks ≡ [] = drop_all (units + copies + 1) marks (omega (arith, len)) in
    sym (take-append-drop units marks)
    ∙ ap (λ (t : List ℕ). take units marks ++ t) (sym (take-append-drop copies (drop units marks)) ∙ ap (λ (t : List ℕ). take copies (drop units marks) ++ t) (later ∙ last ∙ ap (λ (t : List ℕ). get_or marks (units + copies) 0 ∷ t) end))

noted_read : (plan : Plan) (marks bytes : List ℕ) → IsAllowed plan → IsTyped plan → length marks ≡ mark_count plan → length bytes ≡ 1 + length (plan_bytes plan) + length marks
    → HasAt 1 (plan_bytes plan ++ marks) bytes → noted_at bytes ≡ Ok (noted_by plan marks)
unfolding noted_at
noted_read plan marks bytes allowed typed len all h =
    let units : ℕ = unit_marks plan in
    let copies : ℕ = finish_marks plan in
    let first : List ℕ = take units marks in
    let second : List ℕ = take copies (drop units marks) in
    let gate : ℕ = slice_index marks (units + copies) in
    let first_len : length first ≡ units = omega (arith, length-take units marks, len) in
    let second_len : length second ≡ copies = omega (arith, length-take copies (drop units marks), length-drop units marks, len) in
    let read = plan_read plan bytes allowed typed (has_first (plan_bytes plan) marks h) in
    let at_marks = subst (λ field. HasAt (1 + length (plan_bytes plan)) field bytes) (parts marks units copies len) (has_second (plan_bytes plan) marks h) in
    let at_second = has_second first (second ++ (gate ∷ [])) at_marks in
    let at_last = has_second second (gate ∷ []) at_second in
    let units_read = marks_read units (1 + length (plan_bytes plan)) first bytes first_len (has_first first (second ++ (gate ∷ [])) at_marks) in
    let copies_read = marks_read copies (1 + length (plan_bytes plan) + units) second bytes second_len (moved (omega (arith, first_len)) (has_first second (gate ∷ []) at_second)) in
    let last = last_read (1 + length (plan_bytes plan) + units + copies) gate bytes (omega (arith, all, len)) (moved (omega (arith, first_len, second_len)) at_last) in
    rw (read, units_read, copies_read, last) refl

pub stands_so : (plan : Plan) (marks : List ℕ) → IsAllowed plan → IsTyped plan → length marks ≡ mark_count plan → stands (record_of 0xA5 plan marks) ≡ Ok (Some (noted_by plan marks))
unfolding stands
stands_so plan marks allowed typed len =
    let bytes : List ℕ = record_of 0xA5 plan marks in
    let all : length bytes ≡ 1 + length (plan_bytes plan) + length marks = omega (arith, length-append (plan_bytes plan) marks) in
    let here : HasAt 1 (plan_bytes plan ++ marks) bytes = record { front = 0xA5 ∷ []; rest = []; at = refl; is = ap (λ (t : List ℕ). 0xA5 ∷ t) (sym (append-nil (plan_bytes plan ++ marks))) } in
    let read = noted_read plan marks bytes allowed typed len all here in
    rw (lt-ltb 1 (length bytes) (omega (arith, all, len)), read) refl
