use Rattle.std.proofs.Common.{length, take, drop, ◌-◌, subst, arith, ap}
use Rattle.rc_drillwords.specs.Asking.{spellings}
use Rattle.rc_drillwords.proofs.Readings.{Goes, begins, goes_at, goes_bad, goes_last, goes_on, length_zero}
use Rattle.rc_drillwords.proofs.arguments.read_arguments.Goals as goal

pub returns-in-Err-clause-refused : goal.returns-in-Err-clause-refused
returns-in-Err-clause-refused c =
    let rest = c.arguments.rest.now in
    let later = take (length rest - 1) (drop 1 rest) in
    let next = begins rest c.first-item.result c.in-len1-up.len_at_least c.first-item.is in
    let goes = goes_at (spellings c.args.args.now) c.arguments.asked c.arguments.place rest c.first-item.result later c.as_str.result.now c.arguments.invariant.0 next c.as_str.ensures.value in
    goes_bad (spellings c.args.args.now) c.arguments.asked c.arguments.place c.as_str.result.now (spellings later) c.in-Err.e goes c.in-Err.ensures.bad

pub arguments-preserved : goal.arguments-preserved
arguments-preserved c =
    let rest = c.arguments.rest.now in
    let later = take (length rest - 1) (drop 1 rest) in
    let next = begins rest c.first-item.result c.in-len1-up.len_at_least c.first-item.is in
    let goes = goes_at (spellings c.args.args.now) c.arguments.asked c.arguments.place rest c.first-item.result later c.as_str.result.now c.arguments.invariant.0 next c.as_str.ensures.value in (
      goes_on (spellings c.args.args.now) c.arguments.asked c.in-Ok.more c.arguments.place c.as_str.result.now (spellings later) goes c.in-Ok.ensures.adds c.in-Ok.ensures.bad,
      omega (arith, ap length next, c.arguments.invariant.1),
    )

pub returns-clause-asked : goal.returns-clause-asked
returns-clause-asked c =
    let none = length_zero c.arguments.rest.now c.in_default.len_below in
    (goes_last (spellings c.args.args.now) c.arguments.asked c.arguments.place (subst (λ rest. Goes (spellings c.args.args.now) c.arguments.asked c.arguments.place (spellings rest)) none c.arguments.invariant.0)).0

pub returns-clause-refused : goal.returns-clause-refused
returns-clause-refused c =
    let none = length_zero c.arguments.rest.now c.in_default.len_below in
    (goes_last (spellings c.args.args.now) c.arguments.asked c.arguments.place (subst (λ rest. Goes (spellings c.args.args.now) c.arguments.asked c.arguments.place (spellings rest)) none c.arguments.invariant.0)).1
