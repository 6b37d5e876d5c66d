use Rattle.std.proofs.Common.{ap, sym, ◌∙◌, map}
use Rattle.std.specs.BTreeMap as btree
use Rattle.std.specs.FinMap.{find, get-entries}
use Rattle.rc_tree.specs.Path.{key_cmp}
use Rattle.rc_mem.specs.Nodes.{at_key}
use Rattle.rc_stop.proofs.Draws.{find-next}
use Rattle.rc_stop.proofs.image.add_keys.Goals as goal

pub loop-node-preserved : goal.loop-node-preserved
loop-node-preserved c = record {
  same = λ key. c.in_ok-add_key.ensures.same key ∙ c.loop-node.invariant.same key;
  left = λ key none.
      find-next c.in-Some.node.now c.loop-node.node-iterator c.next.new.self key c.in-Some.ensures.steps
      (λ same. c.in_ok-add_key.ensures.here (ap (btree.get key_cmp c.add_key.new.odd) (c.in_ok-key.ensures ∙ sym same) ∙ none))
      ∙ c.loop-node.invariant.left key (c.in_ok-add_key.ensures.others key none);
  ordered = c.in_ok-add_key.ensures.ordered;
}

pub returns-clause-all : goal.returns-clause-all
returns-clause-all c = λ key none.
    get-entries c.args.tree.now key ∙ sym (c.loop-node.invariant.left key none) ∙ ap (λ nodes. find key_cmp key (map at_key nodes)) c.in-None.ensures.steps.0
