use Rattle.rc_stop.proofs.Draws.{none-there, odd-added}
use Rattle.rc_stop.proofs.image.add_key.Goals as goal

pub returns-in_ok-insert-clause-same : goal.returns-in_ok-insert-clause-same
returns-in_ok-insert-clause-same c =
    odd-added c.args.odd.now c.insert.new.self c.args.key (none-there c.args.odd.now c.args.key c.contains_key.result c.contains_key.ensures c.if-not-contains_key.true) c.in_ok-insert.ensures.updates
