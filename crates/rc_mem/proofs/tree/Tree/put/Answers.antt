use Rattle.std.proofs.Common.{◌≡◌, ◌+◌, ◌≤◌, ◌∙◌, length}
use Rattle.std.specs.FinMap.{get}
use Rattle.rc_tree.specs.Path.{key_of}
use Rattle.rc_tree.specs.declared.attr.Kind.TheVariants.{File}
use Rattle.rc_volume.specs.Site.{written_at}
use Rattle.rc_mem.specs.Nodes.{node_of}
use Rattle.rc_mem.proofs.Steps.{on_ok-to, on_err-to, stands-self, absent-self, file_here, none_here, no_bytes-dir, sound-changed, self-becomes, self-same}
use Rattle.rc_mem.proofs.tree.Tree.put.Goals as goal

pub unreachable-requires : goal.unreachable-requires
unreachable-requires c =
    none_here (get c.args.self.now (key_of c.args.path.now)) (λ node. (node.kind ≡ File) × (c.args.off + length c.args.bytes.now ≤ length node.bytes)) (absent-self c.args.self.now c.self.inside.nodes c.in_ok-key.key (key_of c.args.path.now) c.self.view_is c.in_ok-key.ensures c.in-None.ensures.value) c.requires

pub put-requires : goal.put-requires
put-requires c =
    let node = c.in-Some.node.now in
    let stands = stands-self c.args.self.now c.self.inside.nodes c.in_ok-key.key (key_of c.args.path.now) node c.self.view_is c.in_ok-key.ensures c.in-Some.ensures.value in
    (file_here (get c.args.self.now (key_of c.args.path.now)) (node_of node) (λ node. c.args.off + length c.args.bytes.now ≤ length node.bytes) stands c.requires).1

pub invariant_of-self : goal.invariant_of-self
invariant_of-self c =
    let m = c.self.inside.nodes in
    let node = c.in-Some.node.now in
    let new = c.put.new.self in
    let at = c.in-Some.ensures.value in
    let stands = stands-self c.args.self.now m c.in_ok-key.key (key_of c.args.path.now) node c.self.view_is c.in_ok-key.ensures at in
    let file = file_here (get c.args.self.now (key_of c.args.path.now)) (node_of node) (λ node. (c.args.off + length c.args.bytes.now ≤ length node.bytes)) stands c.requires in
    sound-changed m (c.get_mut.follows.lender new) c.in_ok-key.key node new at (c.get_mut.follows.holds new) c.self.invariant c.put.ensures.path c.put.ensures.kind (no_bytes-dir (node_of new) (c.put.ensures.kind ∙ file.0))

pub returns-clause-put : goal.returns-clause-put
returns-clause-put c =
    let m = c.self.inside.nodes in
    let new = c.put.new.self in
    on_ok-to c.put.result (self-becomes m (c.get_mut.follows.lender new) c.in_ok-key.key c.in-Some.node.now new c.in-Some.ensures.value (c.get_mut.follows.holds new) c.args.self.now (key_of c.args.path.now) (written_at c.args.off c.args.bytes.now) c.self.view_is c.in_ok-key.ensures) c.put.ensures.put

pub returns-clause-err : goal.returns-clause-err
returns-clause-err c =
    let m = c.self.inside.nodes in
    let new = c.put.new.self in
    on_err-to c.put.result (self-same m (c.get_mut.follows.lender new) c.in_ok-key.key c.in-Some.node.now new c.in-Some.ensures.value (c.get_mut.follows.holds new) c.args.self.now c.self.view_is) c.put.ensures.err
