use Rattle.drill.proofs.Streams.{Wrote}
use Rattle.drill.proofs.adapters.write_from_front.Given as goal

abbrev pub invariant-loop-turn : goal.invariant-loop-turn
invariant-loop-turn g l = Wrote l.bytes l.rest (g.W.Write.contents l.fn.writer) (g.W.Write.contents l.writer)
