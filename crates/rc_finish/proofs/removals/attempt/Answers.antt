use Rattle.std.proofs.Common.{List, sym, subst, ◌∙◌, append-nil}
use Rattle.rc_tree.specs.Path.{key_of}
use Rattle.rc_volume.specs.Log.{Event, changed, remove}
use Rattle.rc_finish.specs.Calls.{LogsEach}
use Rattle.rc_finish.proofs.Retries.{each_logs}
use Rattle.rc_finish.proofs.removals.attempt.Goals as goal

pub returns-in-Ok-Some-clause-calls : goal.returns-in-Ok-Some-clause-calls
returns-in-Ok-Some-clause-calls g c = λ tells.
    let new = (g.S.Site.view c.remove.new.self).log in
    subst (λ (old : List Event). LogsEach (changed c.args.side (key_of c.args.path.now) remove) old new) (c.stat.ensures.frame.log tells) (each_logs _ _ _ _ (c.remove.ensures.log tells))

pub returns-in-Ok-None-clause-calls : goal.returns-in-Ok-None-clause-calls
returns-in-Ok-None-clause-calls g c = λ tells. (0, c.stat.ensures.frame.log tells ∙ sym (append-nil _))
