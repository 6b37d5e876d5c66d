use Rattle.std.proofs.Common.{refl, subst, ◌∙◌, List, ℕ, inr}
use Rattle.rc_volume.specs.Faults.{RoseBy}
use Rattle.drill.specs.Drilling.{OfSome, WritesOut}
use Rattle.drill.specs.Printed.{text_line}
use Rattle.drill.proofs.WrittenTexts.{AppendsFront-none, wrote_front}
use Rattle.drill.proofs.output.refuse_text.Goals as goal

pub returns-in-Ok-clause-written : goal.returns-in-Ok-clause-written
returns-in-Ok-clause-written g c =
    subst (λ (t : List ℕ). OfSome g.K.Sink.tells (g.K.Sink.received c.write_line.new.out) (λ x. WritesOut (RoseBy 1 (g.K.Sink.faults c.args.out.now) (g.K.Sink.faults c.write_line.new.out)) (g.K.Sink.received c.args.out.now) t 16 x c.write_line.result)) (c.as_str.ensures.value ∙ c.in-Ok.ensures) c.write_line.ensures.written

pub returns-in-Err-clause-written : goal.returns-in-Err-clause-written
returns-in-Err-clause-written g c =
    wrote_front g.K.Sink.tells (g.K.Sink.received c.args.out.now) (text_line c.args.line c.args.kind) (g.K.Sink.received c.args.out.now) (RoseBy 1 (g.K.Sink.faults c.args.out.now) (g.K.Sink.faults c.args.out.now)) 16 32
    (λ told. AppendsFront-none (g.K.Sink.received c.args.out.now) (text_line c.args.line c.args.kind)) (inr refl)
