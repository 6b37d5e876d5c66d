-- What a record stands for when no mark stands, and when one more is written.
use Rattle.std.proofs.Common.{◌≡◌, ℕ, zero, suc, ◌+◌, ◌-◌, ◌<◌, false, Bool, List, ◌∷◌, length, map, take, drop, set, replicate, Option, Some, Result, Ok, refl, sym, ap, ◌∙◌, arith}
use Rattle.std.proofs.lemmas.List.{drop-replicate, drop-set-add, drop-set-lt, get_or-replicate, get_or-set_other, get_or-set_same, length-replicate, length-set, map-set, take-replicate, take-set-le}
use Rattle.std.proofs.Math.Seq.{take-set-lt}
use Rattle.rc_class.specs.declared.noted.Noted.{Noted}
use Rattle.rc_class.specs.declared.plan.Plan.{Plan}
use Rattle.rc_volume.specs.Log.{Event}
use Rattle.rc_record.specs.Grammar.{finish_marks, stands, stands_at, unit_marks}
use Rattle.rc_record.specs.Spelling.{mark_count, no_marks, noted_by, open_record, IsAllowed, IsTyped}
use Rattle.rc_record.specs.Writing.{finishes_before, mark_number, unmarked, with_mark, HasPlace, IsMarkedBy, IsMarkedImage, StandsFor, StandsMarked}
use Rattle.rc_record.specs.declared.marks.MarkPlace.{MarkPlace}
use Rattle.rc_record.specs.declared.marks.MarkPlace.TheVariants.{Finish, Last, Unit as UnitMark}
use Rattle.rc_record.proofs.Counts.{copies_before}
use Rattle.rc_record.proofs.SpelledRecord.{stands_so}

-- No mark

none_stand : (n : ℕ) → map stands_at (replicate n 0) ≡ replicate n false
none_stand zero = refl
none_stand (suc n) = ap (λ (t : List Bool). false ∷ t) (none_stand n)

no_mark : (plan : Plan) → noted_by plan (no_marks plan) ≡ unmarked plan
no_mark plan =
    let units : ℕ = unit_marks plan in
    let copies : ℕ = finish_marks plan in
    let all : ℕ = mark_count plan in
    λ i. record {
      plan = plan;
      units = (ap (map stands_at) (take-replicate units all 0 (omega arith)) ∙ none_stand units) i;
      finished = (ap (λ (t : List ℕ). map stands_at (take copies t)) (drop-replicate units all 0) ∙ ap (map stands_at) (take-replicate copies (all - units) 0 (omega arith)) ∙ none_stand copies) i;
      last = (ap stands_at (get_or-replicate all (units + copies) 0 0 (omega arith))) i;
    }

pub stands_unmarked : (plan : Plan) → IsAllowed plan → IsTyped plan → StandsFor (unmarked plan) (open_record plan)
stands_unmarked plan allowed typed =
    stands_so plan (no_marks plan) allowed typed (length-replicate (mark_count plan) 0) ∙ ap (λ (note : Noted). Ok (Some note)) (no_mark plan)

-- One mark

marked_noted : (plan : Plan) (place : MarkPlace) (byte : ℕ) (marks : List ℕ) → HasPlace plan place → length marks ≡ mark_count plan
    → noted_by plan (set marks (mark_number plan place) byte) ≡ with_mark place (stands_at byte) (noted_by plan marks)
marked_noted plan (UnitMark n) byte marks has len =
    let units : ℕ = unit_marks plan in
    let copies : ℕ = finish_marks plan in
    λ i. record {
      plan = plan;
      units = (ap (map stands_at) (take-set-lt units marks n byte has) ∙ map-set stands_at (take units marks) n byte) i;
      finished = (ap (λ (t : List ℕ). map stands_at (take copies t)) (drop-set-lt units marks n byte has)) i;
      last = (ap stands_at (get_or-set_other marks n (units + copies) byte 0 (λ same. omega (arith, same, has)))) i;
    }
marked_noted plan (Finish n) byte marks has len =
    let units : ℕ = unit_marks plan in
    let copies : ℕ = finish_marks plan in
    let at : ℕ = finishes_before plan n in
    let within : at < copies = copies_before plan.items n has in
    λ i. record {
      plan = plan;
      units = (ap (map stands_at) (take-set-le units marks (units + at) byte (omega arith))) i;
      finished = (ap (λ (t : List ℕ). map stands_at (take copies t)) (drop-set-add units marks at byte) ∙ ap (map stands_at) (take-set-lt copies (drop units marks) at byte within) ∙ map-set stands_at (take copies (drop units marks)) at byte) i;
      last = (ap stands_at (get_or-set_other marks (units + at) (units + copies) byte 0 (λ same. omega (arith, same, within)))) i;
    }
marked_noted plan Last byte marks has len =
    let units : ℕ = unit_marks plan in
    let copies : ℕ = finish_marks plan in
    λ i. record {
      plan = plan;
      units = (ap (map stands_at) (take-set-le units marks (units + copies) byte (omega arith))) i;
      finished = (ap (λ (t : List ℕ). map stands_at (take copies t)) (drop-set-add units marks copies byte) ∙ ap (map stands_at) (take-set-le copies (drop units marks) copies byte (omega arith))) i;
      last = (ap stands_at (get_or-set_same marks (units + copies) byte 0 (omega (arith, len)))) i;
    }

abbrev something : Noted → Result (Option Noted) ℕ
something note = Ok (Some note)

noted_same : (one two : Noted) → something one ≡ something two → one ≡ two
noted_same one two e = cc

-- what stands for something, and is marked with a byte at one place
pub stands_marked : (plan : Plan) (place : MarkPlace) (byte : ℕ) (old new : List ℕ) (note : Noted) → IsAllowed plan → IsTyped plan → HasPlace plan place → IsMarkedBy plan place byte old new → StandsFor note old
    → StandsFor (with_mark place (stands_at byte) note) new
stands_marked plan place byte old new note allowed typed has by was =
    let is : noted_by plan by.marks ≡ note = noted_same (noted_by plan by.marks) note (sym (stands_so plan by.marks allowed typed by.count) ∙ sym (ap stands by.was) ∙ was) in
    ap stands by.is
    ∙ stands_so plan (set by.marks (mark_number plan place) byte) allowed typed (length-set by.marks (mark_number plan place) byte ∙ by.count)
    ∙ ap something (marked_noted plan place byte by.marks has by.count ∙ ap (with_mark place (stands_at byte)) is)

pub image_stands : (plan : Plan) (place : MarkPlace) (log : List Event) (image : List ℕ) → IsAllowed plan → IsTyped plan → HasPlace plan place → IsMarkedImage plan place log image → StandsMarked place log image
image_stands plan place log image allowed typed has marked =
    let was : StandsFor (noted_by plan marked.by.marks) marked.before = ap stands marked.by.was ∙ stands_so plan marked.by.marks allowed typed marked.by.count in
    record {
      before = marked.before;
      note = noted_by plan marked.by.marks;
      stood = stands_at marked.byte;
      left = marked.left;
      was = was;
      is = stands_marked plan place marked.byte marked.before image (noted_by plan marked.by.marks) allowed typed has marked.by was;
    }
