use Rattle.std.proofs.Common.{refl, sym, subst, inr}
use Rattle.rc_volume.specs.Faults.{RoseBy}
use Rattle.drill.specs.declared.begin.Stop.{Stop}
use Rattle.drill.specs.Drilling.{OfSome, WritesOut}
use Rattle.drill.specs.Finishing.{stop_line}
use Rattle.drill.proofs.WrittenTexts.{wrote_front, AppendsFront-none}
use Rattle.drill.proofs.output.refuse.Goals as goal

pub returns-in-Input-clause-written : goal.returns-in-Input-clause-written
returns-in-Input-clause-written g c =
    subst (λ (stop : Stop). OfSome g.K.Sink.tells (g.K.Sink.received c.write_line.new.out) (λ x. WritesOut (RoseBy 1 (g.K.Sink.faults c.args.out.now) (g.K.Sink.faults c.write_line.new.out)) (g.K.Sink.received c.args.out.now) (stop_line stop) 16 x c.write_line.result)) (sym c.in-Input.is) c.write_line.ensures.written

pub returns-in-SiteText-clause-written : goal.returns-in-SiteText-clause-written
returns-in-SiteText-clause-written g c =
    subst (λ (stop : Stop). OfSome g.K.Sink.tells (g.K.Sink.received c.refuse_text.new.out) (λ x. WritesOut (RoseBy 1 (g.K.Sink.faults c.args.out.now) (g.K.Sink.faults c.refuse_text.new.out)) (g.K.Sink.received c.args.out.now) (stop_line stop) 16 x c.refuse_text.result)) (sym c.in-SiteText.is) c.refuse_text.ensures.written

pub returns-in-NoMemory-clause-written : goal.returns-in-NoMemory-clause-written
returns-in-NoMemory-clause-written g c =
    wrote_front g.K.Sink.tells (g.K.Sink.received c.args.out.now) (stop_line c.args.stop) (g.K.Sink.received c.args.out.now) (RoseBy 1 (g.K.Sink.faults c.args.out.now) (g.K.Sink.faults c.args.out.now)) 16 32
    (λ told. AppendsFront-none (g.K.Sink.received c.args.out.now) (stop_line c.args.stop)) (inr refl)
