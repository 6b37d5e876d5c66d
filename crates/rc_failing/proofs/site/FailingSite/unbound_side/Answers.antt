use Rattle.std.proofs.Common.{arith}
use Rattle.rc_volume.specs.declared.site.Part.TheVariants.{Target}
use Rattle.rc_failing.proofs.site.FailingSite.unbound_side.Goals as goal

pub returns-then-fails-2-clause-failed : goal.returns-then-fails-2-clause-failed
returns-then-fails-2-clause-failed c =
    let stood = c.fails.ensures.passed c.if-fails.false in
    let rose = c.fails-2.ensures.failed c.if-fails-2.true in
    (omega (arith, stood Target, rose.0), λ part. omega (arith, stood part, rose.1 part))
