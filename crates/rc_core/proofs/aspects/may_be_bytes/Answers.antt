use Rattle.std.proofs.Common.{ap, arith, length}
use Rattle.std.specs.Prelude.{slice_get}
use Rattle.rc_core.specs.Rows.{all_had}
use Rattle.rc_core.specs.Stops.{MayBeByte}
use Rattle.rc_core.proofs.Numbers.{not_so, number_more, passed, refused}
use Rattle.rc_core.proofs.aspects.may_be_bytes.Goals as goal

pub returns-then-not-may_be_byte : goal.returns-then-not-may_be_byte
returns-then-not-may_be_byte c =
    refused _ (λ all. not_so c.may_be_byte.result _ c.may_be_byte.ensures c.if-not-may_be_byte.true
    (all c.loop-at.at (omega (arith, c.loop-at-test.true, ap length c.bytes-at-end.ensures))))

pub loop-at-preserved : goal.loop-at-preserved
loop-at-preserved c =
    number_more (λ at. MayBeByte (all_had c.args.row.now) c.args.row.now.touched.puts at (slice_get c.args.image.now.bytes at)) c.loop-at.at c.loop-at.invariant
    (c.may_be_byte.ensures.0 c.if-not-may_be_byte.false)

pub returns : goal.returns
returns c = passed _ (λ at less. c.loop-at.invariant at (omega (arith, less, c.loop-at-test.false, ap length c.bytes-at-end.ensures)))
