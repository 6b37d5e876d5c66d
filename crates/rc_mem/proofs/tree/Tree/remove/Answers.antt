use Rattle.rc_tree.specs.Path.{key_of}
use Rattle.rc_mem.proofs.Steps.{sound-went, self-goes}
use Rattle.rc_mem.proofs.tree.Tree.remove.Goals as goal

pub invariant_of-self : goal.invariant_of-self
invariant_of-self c = sound-went c.self.inside.nodes c.remove.new.self c.in_ok-key.key c.remove.ensures.updates c.self.invariant c.args.self.now (key_of c.args.path.now) c.self.view_is c.in_ok-key.ensures c.requires

pub returns-clause-removed : goal.returns-clause-removed
returns-clause-removed c = self-goes c.self.inside.nodes c.remove.new.self c.in_ok-key.key c.remove.ensures.updates c.args.self.now (key_of c.args.path.now) c.self.view_is c.in_ok-key.ensures
