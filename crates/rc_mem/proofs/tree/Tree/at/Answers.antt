use Rattle.std.proofs.Common.{ap, sym, ◌∙◌}
use Rattle.std.specs.Prelude.{option_map}
use Rattle.std.specs.FinMap.{get}
use Rattle.rc_mem.specs.Nodes.{node_of}
use Rattle.rc_mem.proofs.Sound.{get-held, ref-map}
use Rattle.rc_mem.proofs.tree.Tree.at.Goals as goal

pub returns-clause-found : goal.returns-clause-found
returns-clause-found c =
    ref-map node_of c.get.result ∙ ap (option_map node_of) c.get.ensures.value ∙ sym (get-held c.self.inside.nodes c.args.key.now) ∙ ap (λ t. get t c.args.key.now) c.self.view_is
