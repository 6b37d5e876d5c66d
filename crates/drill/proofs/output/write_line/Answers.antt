use Rattle.std.proofs.Common.{◌++◌, ap, refl, subst, ◌∙◌, List, ℕ, inl, inr}
use Rattle.rc_volume.specs.Faults.{RoseBy}
use Rattle.rc_volume.specs.Streams.{AppendsFront}
use Rattle.drill.proofs.WrittenTexts.{wrote_all, wrote_front}
use Rattle.drill.proofs.output.write_line.Goals as goal

pub returns-in-Ok-clause-written : goal.returns-in-Ok-clause-written
returns-in-Ok-clause-written g c =
    wrote_all g.K.Sink.tells (g.K.Sink.received c.args.out.now) c.args.line.now (g.K.Sink.received c.write.new.self) (RoseBy 1 (g.K.Sink.faults c.args.out.now) (g.K.Sink.faults c.write.new.self)) 16
    (λ told. c.in-Ok.ensures.written told ∙ ap (λ (t : List ℕ). g.K.Sink.received c.args.out.now ++ t) c.as_bytes.ensures.value)

pub returns-in-Err-Failed-clause-written : goal.returns-in-Err-Failed-clause-written
returns-in-Err-Failed-clause-written g c =
    wrote_front g.K.Sink.tells (g.K.Sink.received c.args.out.now) c.args.line.now (g.K.Sink.received c.write.new.self) (RoseBy 1 (g.K.Sink.faults c.args.out.now) (g.K.Sink.faults c.write.new.self)) 16 16
    (λ told. subst (λ (t : List ℕ). AppendsFront (g.K.Sink.received c.args.out.now) t (g.K.Sink.received c.write.new.self)) c.as_bytes.ensures.value (c.in-Err-Failed.ensures.front told))
    (inl ((rw c.in-Err-Failed.field-0-is at c.in-Err-Failed.ensures.cause).1, refl))

pub returns-in-Err-NoMemory-clause-written : goal.returns-in-Err-NoMemory-clause-written
returns-in-Err-NoMemory-clause-written g c =
    wrote_front g.K.Sink.tells (g.K.Sink.received c.args.out.now) c.args.line.now (g.K.Sink.received c.write.new.self) (RoseBy 1 (g.K.Sink.faults c.args.out.now) (g.K.Sink.faults c.write.new.self)) 16 32
    (λ told. subst (λ (t : List ℕ). AppendsFront (g.K.Sink.received c.args.out.now) t (g.K.Sink.received c.write.new.self)) c.as_bytes.ensures.value (c.in-Err-NoMemory.ensures.front told))
    (inr refl)
