use Rattle.std.proofs.Common.{◌+◌, ◌≤◌, ◌++◌, ℕ, List, length, take, drop, ap, ◌∙◌, arith}
use Rattle.std.proofs.lemmas.List.{take_all}
use Rattle.rc_report.proofs.FrontLemmas.{piece_front, piece_sent}
use Rattle.rc_report.proofs.report.send.Goals as goal

pub pieces-preserved : goal.pieces-preserved
pieces-preserved g c =
    let within : c.pieces.done + c.min-len.result ≤ length c.args.text.now = omega (arith, c.min-len.ensures, c.pieces.invariant.within) in
    record {
      within = within;
      sent = λ tells. piece_sent c.args.text.now (g.K.Sink.received c.args.sink.now) (g.K.Sink.received c.pieces.sink) (g.K.Sink.received c.write.new.self) _ c.pieces.done c.min-len.result c.pieces.invariant.within
          (c.pieces.invariant.sent tells) (ap (λ (n : ℕ). take n (drop c.pieces.done c.args.text.now)) (omega arith)) (c.in-Ok.ensures.written tells);
      counts = c.in-Ok.ensures.cause ∙ c.pieces.invariant.counts;
    }

pub returns-in-Err-clause-front : goal.returns-in-Err-clause-front
returns-in-Err-clause-front g c tells =
    piece_front c.args.text.now (g.K.Sink.received c.args.sink.now) (g.K.Sink.received c.pieces.sink) (g.K.Sink.received c.write.new.self) _ c.pieces.done c.min-len.result
    (c.pieces.invariant.sent tells) (ap (λ (n : ℕ). take n (drop c.pieces.done c.args.text.now)) (omega arith)) (c.in-Err.ensures.front tells)

pub returns-clause-written : goal.returns-clause-written
returns-clause-written g c tells =
    c.pieces.invariant.sent tells ∙ ap (λ (bs : List ℕ). g.K.Sink.received c.args.sink.now ++ bs) (take_all c.pieces.done c.args.text.now (omega arith))
