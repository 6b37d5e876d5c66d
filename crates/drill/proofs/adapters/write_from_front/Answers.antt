-- What was taken so far is followed by what this turn took.
use Rattle.std.proofs.Common.{sym, subst}
use Rattle.drill.proofs.Streams.{Wrote, Wrote-more, Wrote-kept}
use Rattle.drill.proofs.adapters.write_from_front.Goals.{in-Ok, in-Err}
use Rattle.drill.proofs.adapters.write_from_front.Goals as goal

pub loop-turn-preserved : goal.loop-turn-preserved
loop-turn-preserved g c =
    elim c.match-write.branch [
      | in-Ok w ↦
          subst (λ rest. Wrote c.args.bytes.now rest.now (g.W.Write.contents c.args.writer.now) (g.W.Write.contents c.write.new.self)) (sym w.rest-is)
          (Wrote-more _ _ _ _ _ w.in-Ok.count c.loop-turn.invariant w.in-Ok.ensures.bound w.in-Ok.ensures.bytes)
      | in-Err w ↦
          subst (λ rest. Wrote c.args.bytes.now rest.now (g.W.Write.contents c.args.writer.now) (g.W.Write.contents c.write.new.self)) (sym w.rest-is)
          (Wrote-kept _ _ _ _ _ c.loop-turn.invariant w.in-Err.ensures.bytes)
    ]
