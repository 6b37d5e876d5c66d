use Rattle.std.proofs.Common.{◌++◌, [], ap, sym, subst, refl, ◌∙◌}
use Rattle.std.proofs.lemmas.List.{append-nil}
use Rattle.rc_volume.specs.Streams.{AppendsFront}
use Rattle.rc_sitetext.specs.SiteText.{tree_lines}
use Rattle.rc_sitetext.proofs.Appends.{behind}
use Rattle.rc_sitetext.proofs.Sends.{on_err, front_in, front_first, node_lines_are}
use Rattle.rc_sitetext.proofs.writer.send_side.Goals as goal

pub returns-in_err-send_entries-clause-front : goal.returns-in_err-send_entries-clause-front
returns-in_err-send_entries-clause-front g c = λ told.
    let lines = node_lines_are c.nodes.result c.args.tree.now c.nodes.ensures.nodes c.nodes.ensures.spelled in
    on_err c.from_residual.result
    (front_first (g.K.Sink.received c.args.out.now) (g.K.Sink.received c.send_entries.new.out) (tree_lines c.args.tree.now) c.args.end.now _
    (subst (λ t. AppendsFront (g.K.Sink.received c.args.out.now) t (g.K.Sink.received c.send_entries.new.out)) lines (c.in_err-send_entries.ensures.front told)) refl)

pub returns-in_err-write-clause-front : goal.returns-in_err-write-clause-front
returns-in_err-write-clause-front g c = λ told.
    let lines = node_lines_are c.nodes.result c.args.tree.now c.nodes.ensures.nodes c.nodes.ensures.spelled in
    on_err c.from_residual-in_err-write.result
    (front_in (g.K.Sink.received c.args.out.now) (g.K.Sink.received c.send_entries.new.out) (g.K.Sink.received c.write.new.self) (tree_lines c.args.tree.now) c.args.end.now [] _
    (c.in_ok-send_entries.ensures.written told ∙ ap (λ t. g.K.Sink.received c.args.out.now ++ t) lines)
    (rw c.as_bytes.ensures.value at (c.in_err-write.ensures.front told))
    (ap (λ t. tree_lines c.args.tree.now ++ t) (sym (append-nil c.args.end.now))))

pub returns-clause-written : goal.returns-clause-written
returns-clause-written g c = λ told.
    let lines = node_lines_are c.nodes.result c.args.tree.now c.nodes.ensures.nodes c.nodes.ensures.spelled in
    behind (g.K.Sink.received c.args.out.now) (tree_lines c.args.tree.now) c.args.end.now (g.K.Sink.received c.send_entries.new.out) (g.K.Sink.received c.write.new.self)
    (c.in_ok-send_entries.ensures.written told ∙ ap (λ t. g.K.Sink.received c.args.out.now ++ t) lines)
    (c.in_ok-write.ensures.written told ∙ ap (λ t. g.K.Sink.received c.send_entries.new.out ++ t) c.as_bytes.ensures.value)
