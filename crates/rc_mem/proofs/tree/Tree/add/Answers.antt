use Rattle.rc_tree.specs.Path.{key_of}
use Rattle.rc_mem.proofs.Steps.{above-absent}
use Rattle.rc_mem.proofs.tree.Tree.add.Goals as goal

pub place-requires-clause-absent : goal.place-requires-clause-absent
place-requires-clause-absent c = above-absent c.args.self.now (key_of c.args.node.path) c.requires.above
