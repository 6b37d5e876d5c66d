use Rattle.std.proofs.Common.{◌∙◌}
use Rattle.rc_tree.specs.Path.{key_of}
use Rattle.rc_mem.specs.Nodes.{node_of}
use Rattle.rc_mem.proofs.Steps.{sound-came, self-insert}
use Rattle.rc_mem.proofs.tree.Tree.place.Goals as goal

pub invariant_of-self-2 : goal.invariant_of-self-2
invariant_of-self-2 c =
    let node = c.args.node in
    sound-came c.self.inside.nodes c.insert.new.self c.in_ok-key.field-0 (record node { path = c.in_ok-own.own }) c.in_ok-insert.ensures.updates c.args.self.now c.self.view_is c.self.invariant node.path
    c.in_ok-own.ensures (c.in_ok-key.ensures ∙ c.in_ok-own.ensures.key) c.requires.absent c.requires.no_bytes

pub returns-clause-added : goal.returns-clause-added
returns-clause-added c =
    let node = c.args.node in
    self-insert c.self.inside.nodes c.insert.new.self c.in_ok-key.field-0 (record node { path = c.in_ok-own.own }) c.in_ok-insert.ensures.updates c.args.self.now c.self.view_is (key_of node.path) (node_of node)
    (c.in_ok-key.ensures ∙ c.in_ok-own.ensures.key) (λ i. record { spelling = c.in_ok-own.ensures.last i; kind = node.kind; bytes = node.bytes; props = node.props })
