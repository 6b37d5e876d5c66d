use Rattle.std.proofs.Common.{ap, sym, ◌∙◌}
use Rattle.rc_tree.specs.Tree.{Node}
use Rattle.rc_mem.specs.Nodes.{node_of}
use Rattle.rc_mem.proofs.Trees.{no_bytes-in}
use Rattle.rc_stop.proofs.image.grow.Goals as goal

pub place-requires-clause-no_bytes : goal.place-requires-clause-no_bytes
place-requires-clause-no_bytes c = λ dir.
    ap (λ (n : Node). n.bytes) c.in_ok-copy.ensures.same
    ∙ no_bytes-in c.args.from.now c.args.key.now (node_of c.in-Some.node.now) c.keeps_shape.ensures (sym c.in-Some.ensures.found) (sym c.in_ok-copy.ensures.kind ∙ dir)
