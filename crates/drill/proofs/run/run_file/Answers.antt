use Rattle.std.proofs.Common.{refl, inr}
use Rattle.rc_volume.specs.Faults.{RoseBy}
use Rattle.drill.specs.Finishing.{start_of}
use Rattle.drill.proofs.Drills.{shows_one}
use Rattle.drill.proofs.run.run_file.Goals as goal

pub returns-in-Ok-clause-written : goal.returns-in-Ok-clause-written
returns-in-Ok-clause-written g c =
    shows_one g.K.Sink.tells c.args.asked.now (start_of c.args.file) c.in-Ok.printing (RoseBy 1 (g.K.Sink.faults c.args.out.now) (g.K.Sink.faults c.write_finished.new.out)) (g.K.Sink.received c.args.out.now) (g.K.Sink.received c.write_finished.new.out) c.write_finished.result
    c.in-Ok.ensures.ends c.in-Ok.ensures.digests c.in-Ok.ensures.moment c.write_finished.ensures.written

pub returns-in-Err-clause-written : goal.returns-in-Err-clause-written
returns-in-Err-clause-written g c = (g.K.Sink.received c.args.out.now, λ told. refl, inr (refl, refl))
