use Rattle.std.proofs.Common.{arith}
use Rattle.drill.proofs.ReadTexts.{lost_more}
use Rattle.rc_sitetext.proofs.Sends.{on_err}
use Rattle.drill.proofs.begin.read_text.Goals as goal

pub returns-in_err-count-clause-lost : goal.returns-in_err-count-clause-lost
returns-in_err-count-clause-lost g c = λ told.
    let lost = c.in_err-count.ensures.lost told in
    on_err c.from_residual.result
    (lost_more 268435457 lost.0 (g.I.Input.rest c.args.input.now) c.pieces.text.items (g.I.Input.rest c.pieces.input) (g.I.Input.rest c.read_piece.new.input) (c.pieces.invariant.taken told) (omega (arith, lost.1, c.pieces.text.ok.0)) lost.2)
