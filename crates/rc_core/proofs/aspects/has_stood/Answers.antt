use Rattle.std.proofs.Common.{subst}
use Rattle.std.specs.Prelude.{IsSomeAnd, IsTrue, ◌↔◌}
use Rattle.rc_core.specs.Rows.{all_had}
use Rattle.rc_core.specs.Stops.{Agrees, Stood}
use Rattle.rc_core.proofs.Numbers.{second_decides, stood_cases, stood_later}
use Rattle.rc_core.proofs.aspects.has_stood.Goals as goal

pub returns-else-agrees_some : goal.returns-else-agrees_some
returns-else-agrees_some c =
    let row = c.args.row.now in
    let holds = Agrees c.args.aspect c.args.image.now in
    second_decides c.agrees_some.result c.agrees_any.result (IsSomeAnd row.stands holds) (Stood row.touched.had holds) (Stood (all_had row) holds) c.agrees_some.ensures (subst (λ had. IsTrue c.agrees_any.result ↔ Stood had holds) c.had.ensures c.agrees_any.ensures) c.if-agrees_some.false
    (stood_later row.stands row.touched.had holds) (stood_cases row.stands row.touched.had holds)
