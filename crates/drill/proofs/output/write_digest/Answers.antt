use Rattle.std.proofs.Common.{subst, List, ℕ}
use Rattle.drill.specs.Finishing.{Sent}
use Rattle.drill.proofs.WrittenTexts.{sent_none}
use Rattle.drill.proofs.output.write_digest.Goals as goal

pub returns-in-Ok-clause-sent : goal.returns-in-Ok-clause-sent
returns-in-Ok-clause-sent g c =
    let some = c.in-Ok.ensures in (
      some.0,
      some.1,
      subst (λ (t : List ℕ). Sent g.K.Sink.tells c.write_text.result t (g.K.Sink.received c.args.out.now) (g.K.Sink.received c.write_text.new.out)) some.2 c.write_text.ensures.sent,
    )

pub returns-in-Err-clause-sent : goal.returns-in-Err-clause-sent
returns-in-Err-clause-sent g c =
    let some = c.have_some_spelling.ensures in
    (some.0, some.1, sent_none g.K.Sink.tells _ _ (g.K.Sink.received c.args.out.now))
