use Rattle.std.proofs.Common.{◌≡◌, List, ℕ, drop}
use Rattle.rc_volume.specs.Faults.{RoseBy}
use Rattle.drill.specs.Finishing.{start_of}
use Rattle.drill.proofs.Drills.{file_drilled, stop_drilled, stop_read, stop_rose}
use Rattle.drill.proofs.run.drill_asked.Goals as goal

pub returns-in-Ok-clause-answered : goal.returns-in-Ok-clause-answered
returns-in-Ok-clause-answered g c = λ args good is.
    let rest : List ℕ = g.I.Input.rest c.args.input.now in
    let old : List ℕ = g.K.Sink.received c.args.out.now in
    let new : List ℕ = g.K.Sink.received c.run_file.new.out in
    let input_failed : Type 0 = RoseBy 1 (g.I.Input.faults c.args.input.now) (g.I.Input.faults c.begin.new.input) in
    let output_failed : Type 0 = RoseBy 1 (g.K.Sink.faults c.args.out.now) (g.K.Sink.faults c.run_file.new.out) in
    file_drilled g.I.Input.tells g.K.Sink.tells input_failed output_failed args c.args.asked.now rest (start_of c.in-Ok.file) old new c.run_file.result good is c.in-Ok.ensures.file c.run_file.ensures.written

pub returns-in-Ok-clause-read : goal.returns-in-Ok-clause-read
returns-in-Ok-clause-read g c = λ reads number never enough. c.in-Ok.ensures.read reads number

pub returns-in-Err-clause-answered : goal.returns-in-Err-clause-answered
returns-in-Err-clause-answered g c = λ args good is.
    let rest : List ℕ = g.I.Input.rest c.args.input.now in
    let old : List ℕ = g.K.Sink.received c.args.out.now in
    let new : List ℕ = g.K.Sink.received c.refuse.new.out in
    let input_failed : Type 0 = RoseBy 1 (g.I.Input.faults c.args.input.now) (g.I.Input.faults c.begin.new.input) in
    let output_failed : Type 0 = RoseBy 1 (g.K.Sink.faults c.args.out.now) (g.K.Sink.faults c.refuse.new.out) in
    stop_drilled c.in-Err.stop g.I.Input.tells g.K.Sink.tells input_failed output_failed args c.args.asked.now rest old new c.refuse.result good is (stop_rose c.in-Err.stop (g.I.Input.faults c.args.input.now) (g.I.Input.faults c.begin.new.input) c.in-Err.ensures.cause) c.in-Err.ensures.stop c.refuse.ensures.written c.refuse.ensures.silent

pub returns-in-Err-clause-read : goal.returns-in-Err-clause-read
returns-in-Err-clause-read g c = λ reads number never enough.
    let input_failed : Type 0 = RoseBy 1 (g.I.Input.faults c.args.input.now) (g.I.Input.faults c.begin.new.input) in
    stop_read c.in-Err.stop input_failed (g.I.Input.rest c.begin.new.input ≡ drop 268435457 (g.I.Input.rest c.args.input.now)) c.refuse.result (stop_rose c.in-Err.stop (g.I.Input.faults c.args.input.now) (g.I.Input.faults c.begin.new.input) c.in-Err.ensures.cause) never (λ h. (c.refuse.ensures.silent h).1) enough (λ h. c.in-Err.ensures.read_all reads number h)
