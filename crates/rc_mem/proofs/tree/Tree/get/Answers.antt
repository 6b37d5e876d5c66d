use Rattle.std.proofs.Common.{ap, ◌∙◌}
use Rattle.std.specs.FinMap.{get}
use Rattle.rc_tree.specs.Path.{key_of}
use Rattle.rc_mem.proofs.Sound.{ref-dir}
use Rattle.rc_mem.proofs.tree.Tree.get.Goals as goal

pub returns-clause-directory : goal.returns-clause-directory
returns-clause-directory c = ref-dir c.args.self.now (key_of c.args.path.now) c.at.result c.keeps_shape.ensures (c.at.ensures.found ∙ ap (get c.args.self.now) c.in_ok-key.ensures)
