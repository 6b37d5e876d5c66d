use Rattle.std.proofs.Common.{ap, ◌∙◌, sym, subst}
use Rattle.rc_tree.specs.Path.{key_of, last_name}
use Rattle.rc_tree.specs.Tree.{Node}
use Rattle.rc_mem.specs.Nodes.{fresh_node}
use Rattle.rc_mem.specs.Held.{IsPlaced}
use Rattle.rc_mem.proofs.Steps.{sound-came, self-comes}
use Rattle.rc_mem.proofs.tree.Tree.make.Goals as goal

pub invariant_of-self-2 : goal.invariant_of-self-2
invariant_of-self-2 c =
    let m = c.self.inside.nodes in
    let path = c.args.path.now in
    let new = c.in_ok-node.node in
    sound-came m c.insert.new.self c.in_ok-key.field-0 new c.in_ok-insert.ensures.updates c.args.self.now c.self.view_is c.self.invariant path
    (subst (IsPlaced c.args.self.now path) (sym c.in_ok-node.ensures.path) c.in_ok-own.ensures) c.in_ok-key.ensures c.requires.absent (λ dir. ap (λ (x : Node). x.bytes) c.in_ok-node.ensures.fresh)

pub returns-clause-made : goal.returns-clause-made
returns-clause-made c =
    let path = c.args.path.now in
    self-comes c.self.inside.nodes c.insert.new.self c.in_ok-key.field-0 c.in_ok-node.node c.in_ok-insert.ensures.updates c.args.self.now c.self.view_is (key_of path) (fresh_node c.args.kind (last_name path)) c.in_ok-key.ensures
    (c.in_ok-node.ensures.fresh ∙ ap (fresh_node c.args.kind) c.in_ok-own.ensures.last)
