use Rattle.std.proofs.Common.{ap, ◌∙◌, sym}
use Rattle.std.specs.FinMap.{get}
use Rattle.rc_tree.specs.Path.{key_of}
use Rattle.rc_tree.specs.Tree.{Node}
use Rattle.rc_volume.specs.Site.{with_props}
use Rattle.rc_mem.specs.Nodes.{node_of}
use Rattle.rc_mem.proofs.Steps.{absent-self, none_some, sound-changed, self-becomes}
use Rattle.rc_mem.proofs.Sound.{no_bytes-at}
use Rattle.rc_mem.proofs.tree.Tree.set_props.Goals as goal

pub unreachable-requires : goal.unreachable-requires
unreachable-requires c = none_some (get c.args.self.now (key_of c.args.path.now)) (absent-self c.args.self.now c.self.inside.nodes c.in_ok-key.key (key_of c.args.path.now) c.self.view_is c.in_ok-key.ensures c.in-None.ensures.value) c.requires

pub invariant_of-self : goal.invariant_of-self
invariant_of-self c =
    let m = c.self.inside.nodes in
    let node = c.in-Some.node.now in
    let new = c.set_props.new.self in
    let at = c.in-Some.ensures.value in
    sound-changed m (c.get_mut.follows.lender new) c.in_ok-key.key node new at (c.get_mut.follows.holds new) c.self.invariant c.set_props.ensures.path c.set_props.ensures.kind
    (λ dir. ap (λ (x : Node). x.bytes) c.set_props.ensures.props ∙ no_bytes-at m c.in_ok-key.key node c.self.invariant (sym at) (sym c.set_props.ensures.kind ∙ dir))

pub returns-clause-props : goal.returns-clause-props
returns-clause-props c =
    let m = c.self.inside.nodes in
    let new = c.set_props.new.self in
    self-becomes m (c.get_mut.follows.lender new) c.in_ok-key.key c.in-Some.node.now new c.in-Some.ensures.value (c.get_mut.follows.holds new) c.args.self.now (key_of c.args.path.now) (with_props c.args.props.now) c.self.view_is c.in_ok-key.ensures
    (c.set_props.ensures.props ∙ ap (λ props. with_props props (node_of c.in-Some.node.now)) c.in_ok-props.ensures)
