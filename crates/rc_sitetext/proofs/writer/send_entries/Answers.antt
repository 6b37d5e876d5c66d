-- Each turn writes the line of the next node behind those of the nodes before it.
use Rattle.std.proofs.Common.{◌++◌, ◌+◌, length, take, drop, ap, sym, ◌∙◌, append_assoc, arith}
use Rattle.std.proofs.lemmas.List.{length_push, take_all}
use Rattle.std.proofs.lemmas.Iterator.Consumers.{YieldsList-end, YieldsList-from_first, YieldsList-turn}
use Rattle.rc_sitetext.specs.Writing.{node_line}
use Rattle.rc_sitetext.proofs.Sends.{on_err, front_in, lines_split, lines_more, node_lines}
use Rattle.rc_sitetext.proofs.writer.send_entries.Goals as goal

pub returns-in_err-send_entry-clause-front : goal.returns-in_err-send_entry-clause-front
returns-in_err-send_entry-clause-front g c = λ told.
    let nodes = c.args.nodes in
    let node = c.in-Some.node.now in
    let i = length c.loop-node.yielded in
    let turn = YieldsList-turn (YieldsList-from_first (λ n. n.now) (λ n. n) nodes cc) c.loop-node.yielded _ c.loop-node.yielded_by _ _ c.in-Some.node c.in-Some.is c.next.ensures.steps in
    let whole = lines_split nodes i node turn.0 ∙ ap (λ n. node_lines (take i nodes) ++ (node_line n ++ node_lines (drop (i + 1) nodes))) (sym turn.1) in
    on_err c.from_residual.result
    (front_in (g.K.Sink.received c.args.out.now) (g.K.Sink.received c.loop-node.out) (g.K.Sink.received c.send_entry.new.out) (node_lines (take i nodes)) (node_line node) (node_lines (drop (i + 1) nodes)) (node_lines nodes)
    (c.loop-node.invariant.told told) (c.in_err-send_entry.ensures.front told) whole)

pub loop-node-preserved : goal.loop-node-preserved
loop-node-preserved g c =
    let nodes = c.args.nodes in
    let node = c.in-Some.node.now in
    let i = length c.loop-node.yielded in
    let old = g.K.Sink.received c.args.out.now in
    let turn = YieldsList-turn (YieldsList-from_first (λ n. n.now) (λ n. n) nodes cc) c.loop-node.yielded _ c.loop-node.yielded_by _ _ c.in-Some.node c.in-Some.is c.next.ensures.steps in
    record {
      told = λ told.
          let more = lines_more nodes i node turn.0 ∙ ap (λ n. node_lines (take i nodes) ++ node_line n) (sym turn.1) in
          c.in_ok-send_entry.ensures.written told ∙ ap (λ t. t ++ node_line node) (c.loop-node.invariant.told told)
          ∙ append_assoc old (node_lines (take i nodes)) (node_line node) ∙ ap (λ t. old ++ t) (sym more)
          ∙ ap (λ k. old ++ node_lines (take k nodes)) (sym (length_push c.loop-node.yielded c.in-Some.node));
      counts = c.in_ok-send_entry.ensures.cause ∙ c.loop-node.invariant.counts;
    }

pub returns-clause-written : goal.returns-clause-written
returns-clause-written g c = λ told.
    let nodes = c.args.nodes in
    let old = g.K.Sink.received c.args.out.now in
    let end = YieldsList-end (YieldsList-from_first (λ n. n.now) (λ n. n) nodes cc) c.loop-node.yielded _ c.loop-node.yielded_by _ _ c.in-None.is c.next.ensures.steps in
    c.loop-node.invariant.told told ∙ ap (λ k. old ++ node_lines (take k nodes)) end.1
    ∙ ap (λ ns. old ++ node_lines ns) (take_all (length nodes) nodes (omega arith))
