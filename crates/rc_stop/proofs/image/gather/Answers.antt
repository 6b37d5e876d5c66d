use Rattle.std.proofs.Common.{ap, sym, ◌∙◌}
use Rattle.std.proofs.lemmas.List.{drop_all}
use Rattle.std.specs.FinMap as fin
use Rattle.rc_stop.specs.Grown.{keys_held}
use Rattle.rc_stop.specs.KeptSite.{gathered, keys_on}
use Rattle.rc_stop.proofs.Draws.{keys-are}
use Rattle.rc_stop.proofs.image.gather.Goals as goal

pub returns-clause-keys : goal.returns-clause-keys
returns-clause-keys c =
    keys-are c.loop-call.keys c.loop-call.invariant.ordered
    ∙ ap fin.keys (ap (λ ts. gathered (keys_on c.args.side ts) (keys_held c.loop-call.keys)) (sym (drop_all c.loop-call.call-index c.args.touched.now c.loop-call-test.false)) ∙ c.loop-call.invariant.all)
