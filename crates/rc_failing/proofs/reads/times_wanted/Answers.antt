use Rattle.std.proofs.Common.{subst}
use Rattle.std.specs.List.{All}
use Rattle.std.proofs.lemmas.List.{take_all}
use Rattle.rc_failing.proofs.Picked.{IsPicked, picked-more}
use Rattle.rc_failing.proofs.reads.times_wanted.Goals as goal

pub loop-want-preserved : goal.loop-want-preserved
loop-want-preserved c =
    picked-more c.args.reads.now c.loop-want.wanted c.insert.new.self c.args.wants.now c.loop-want.want-index c.want-item.result c.in_ok-key.key c.times_of-times.result
    c.loop-want.invariant c.loop-want-test.true c.want-item.is c.in_ok-key.ensures c.times_of-times.ensures c.in_ok-insert.ensures.updates

pub returns : goal.returns
returns c = subst (λ ws. All (IsPicked c.args.reads.now c.loop-want.wanted) ws) (take_all c.loop-want.want-index c.args.wants.now c.loop-want-test.false) c.loop-want.invariant
