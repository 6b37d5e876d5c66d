use Rattle.std.proofs.Common.{ap, ◌∙◌, []}
use Rattle.std.specs.Prelude.{chars}
use Rattle.rc_generate.specs.Generated.{dir_name}
use Rattle.rc_generate.proofs.NameLemmas.{dir-chars, named}
use Rattle.rc_generate.proofs.names.dir_path.Goals as goal

pub returns : goal.returns
returns c = named [] c.root.result (chars c.as_str.result.now) (dir_name c.args.i) c.child-2.result c.root.ensures (ap chars (c.as_str.ensures.value ∙ c.in_ok-text.ensures) ∙ dir-chars c.args.i c.requires.small) c.child-2.ensures
