use Rattle.std.proofs.Common.{◌∙◌, sym}
use Rattle.rc_volume.specs.Faults.{RoseBy}
use Rattle.rc_drillwords.specs.Asking.{spellings}
use Rattle.drill.proofs.Drills.{argument_drilled, drilled_told, memory_drilled, none_some, reads_unless}
use Rattle.drill.proofs.run.drill_run.Goals as goal

pub returns-in-Ok-clause-answered : goal.returns-in-Ok-clause-answered
returns-in-Ok-clause-answered g c = c.drill_asked.ensures.answered (spellings c.args.args.now) c.in-Ok.ensures.refused c.in-Ok.ensures.asked

pub returns-in-Ok-clause-drilled : goal.returns-in-Ok-clause-drilled
returns-in-Ok-clause-drilled g c = λ reads hears.
    drilled_told g.I.Input.tells g.K.Sink.tells (RoseBy 1 (g.I.Input.faults c.args.input.now) (g.I.Input.faults c.drill_asked.new.input)) (RoseBy 1 (g.K.Sink.faults c.args.out.now) (g.K.Sink.faults c.drill_asked.new.out)) (spellings c.args.args.now)
    (g.I.Input.rest c.args.input.now) (g.K.Sink.received c.args.out.now) (g.K.Sink.received c.drill_asked.new.out) c.drill_asked.result
    (c.drill_asked.ensures.answered (spellings c.args.args.now) c.in-Ok.ensures.refused c.in-Ok.ensures.asked) reads hears

pub returns-in-Ok-clause-read : goal.returns-in-Ok-clause-read
returns-in-Ok-clause-read g c = λ reads input never enough. c.drill_asked.ensures.read reads (c.in-Ok.ensures.asked.number ∙ input.number) never enough

pub returns-in-Ok-clause-unread : goal.returns-in-Ok-clause-unread
returns-in-Ok-clause-unread g c = λ not. c.drill_asked.ensures.unread (reads_unless (spellings c.args.args.now) c.in-Ok.asked c.in-Ok.ensures.refused c.in-Ok.ensures.asked not)

pub returns-in-Err-Bad-clause-answered : goal.returns-in-Err-Bad-clause-answered
returns-in-Err-Bad-clause-answered g c =
    argument_drilled g.I.Input.tells g.K.Sink.tells _ _ (spellings c.args.args.now) c.in-Err-Bad.place (g.I.Input.rest c.args.input.now) (g.K.Sink.received c.args.out.now) (g.K.Sink.received c.refuse_argument.new.out) c.refuse_argument.result
    (rw c.in-Err-Bad.field-0-is at c.in-Err-Bad.ensures.refused) c.refuse_argument.ensures.written

pub returns-in-Err-Bad-clause-drilled : goal.returns-in-Err-Bad-clause-drilled
returns-in-Err-Bad-clause-drilled g c = λ reads hears.
    drilled_told g.I.Input.tells g.K.Sink.tells (RoseBy 1 (g.I.Input.faults c.args.input.now) (g.I.Input.faults c.args.input.now)) (RoseBy 1 (g.K.Sink.faults c.args.out.now) (g.K.Sink.faults c.refuse_argument.new.out)) (spellings c.args.args.now)
    (g.I.Input.rest c.args.input.now) (g.K.Sink.received c.args.out.now) (g.K.Sink.received c.refuse_argument.new.out) c.refuse_argument.result
    (argument_drilled g.I.Input.tells g.K.Sink.tells (RoseBy 1 (g.I.Input.faults c.args.input.now) (g.I.Input.faults c.args.input.now)) (RoseBy 1 (g.K.Sink.faults c.args.out.now) (g.K.Sink.faults c.refuse_argument.new.out)) (spellings c.args.args.now) c.in-Err-Bad.place (g.I.Input.rest c.args.input.now) (g.K.Sink.received c.args.out.now) (g.K.Sink.received c.refuse_argument.new.out) c.refuse_argument.result
    (rw c.in-Err-Bad.field-0-is at c.in-Err-Bad.ensures.refused) c.refuse_argument.ensures.written) reads hears

pub returns-in-Err-Bad-clause-read : goal.returns-in-Err-Bad-clause-read
returns-in-Err-Bad-clause-read g c = λ reads input never enough. absurd (none_some (sym input.good ∙ (rw c.in-Err-Bad.field-0-is at c.in-Err-Bad.ensures.refused)))

pub returns-in-Err-NoMemory-clause-answered : goal.returns-in-Err-NoMemory-clause-answered
returns-in-Err-NoMemory-clause-answered g c = memory_drilled g.I.Input.tells g.K.Sink.tells _ _ (spellings c.args.args.now) (g.I.Input.rest c.args.input.now) (g.K.Sink.received c.args.out.now)
