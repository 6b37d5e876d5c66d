use Rattle.std.proofs.Common.{refl, ap, ◌∙◌}
use Rattle.std.specs.Prelude.{chars}
use Rattle.rc_generate.specs.Generated.{file_name}
use Rattle.rc_generate.proofs.NameLemmas.{file-chars, named}
use Rattle.rc_generate.proofs.names.file_path.Goals as goal

pub returns : goal.returns
returns c = named c.args.dir.now c.args.dir.now (chars c.as_str.result.now) (file_name c.args.j) c.child.result refl (ap chars (c.as_str.ensures.value ∙ c.in_ok-text.ensures) ∙ file-chars c.args.j c.requires.small) c.child.ensures
