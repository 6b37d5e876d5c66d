use Rattle.std.proofs.Common.{sym, ◌∙◌, arith}
use Rattle.rc_record.proofs.ReadRecord.{record_has}
use Rattle.rc_record.proofs.noted.read.Goals as goal

pub returns-in-Ok-clause-record_of : goal.returns-in-Ok-clause-record_of
returns-in-Ok-clause-record_of c = record_has c.args.bytes.now c.in-Ok.noted (λ i. omega (arith, c.type_inv.bytes i)) (sym c.is_open.ensures ∙ c.if-not-is_open.false) c.in-Ok.ensures.exact
