use Rattle.std.proofs.Common.{refl, sym, subst, ℕ, inl, inr}
use Rattle.rc_run.specs.Outcome.{status_of}
use Rattle.rc_volume.specs.Faults.{RoseBy}
use Rattle.drill.specs.Drilling.{OfSome, WritesOut}
use Rattle.drill.specs.Finishing.{end_of}
use Rattle.drill.specs.Printed.{drill_text}
use Rattle.drill.proofs.WrittenTexts.{printed_one, wrote_all, wrote_front}
use Rattle.drill.proofs.output.write_finished.Goals as goal

pub returns-in-Ok-clause-written : goal.returns-in-Ok-clause-written
returns-in-Ok-clause-written g c =
    let p = c.args.printing.now in
    let some = c.in-Ok.ensures.sent in
    let text = drill_text p.digests p.moment some.0 (end_of p.finished p.jobs) in
    let answer : ℕ = status_of p.finished.outcome in
    let failed : Type 0 = RoseBy 1 (g.K.Sink.faults c.args.out.now) (g.K.Sink.faults c.write_end.new.out) in
    printed_one g.K.Sink.tells p some.0 some.1 failed (g.K.Sink.received c.args.out.now) (g.K.Sink.received c.write_end.new.out) c.status.result
    (subst (λ (n : ℕ). OfSome g.K.Sink.tells (g.K.Sink.received c.write_end.new.out) (λ x. WritesOut failed (g.K.Sink.received c.args.out.now) text answer x n)) (sym c.status.ensures)
    (wrote_all g.K.Sink.tells (g.K.Sink.received c.args.out.now) text (g.K.Sink.received c.write_end.new.out) failed answer some.2.whole))

pub returns-in-Err-Failed-clause-written : goal.returns-in-Err-Failed-clause-written
returns-in-Err-Failed-clause-written g c =
    let p = c.args.printing.now in
    let some = c.in-Err-Failed.ensures.sent in
    let failed : Type 0 = RoseBy 1 (g.K.Sink.faults c.args.out.now) (g.K.Sink.faults c.write_end.new.out) in
    printed_one g.K.Sink.tells p some.0 some.1 failed (g.K.Sink.received c.args.out.now) (g.K.Sink.received c.write_end.new.out) 16
    (wrote_front g.K.Sink.tells (g.K.Sink.received c.args.out.now) (drill_text p.digests p.moment some.0 (end_of p.finished p.jobs)) (g.K.Sink.received c.write_end.new.out) failed (status_of p.finished.outcome) 16
    some.2.front (inl ((rw c.in-Err-Failed.field-0-is at c.in-Err-Failed.ensures.cause).1, refl)))

pub returns-in-Err-NoMemory-clause-written : goal.returns-in-Err-NoMemory-clause-written
returns-in-Err-NoMemory-clause-written g c =
    let p = c.args.printing.now in
    let some = c.in-Err-NoMemory.ensures.sent in
    let failed : Type 0 = RoseBy 1 (g.K.Sink.faults c.args.out.now) (g.K.Sink.faults c.write_end.new.out) in
    printed_one g.K.Sink.tells p some.0 some.1 failed (g.K.Sink.received c.args.out.now) (g.K.Sink.received c.write_end.new.out) 32
    (wrote_front g.K.Sink.tells (g.K.Sink.received c.args.out.now) (drill_text p.digests p.moment some.0 (end_of p.finished p.jobs)) (g.K.Sink.received c.write_end.new.out) failed (status_of p.finished.outcome) 32
    some.2.front (inr refl))
