use Rattle.rc_generate.proofs.NameLemmas.{in_decimal}
use Rattle.rc_generate.proofs.names.numbered.Goals as goal

pub returns : goal.returns
returns c = in_decimal c.format.result c.args.start.now c.args.end.now c.args.number c.requires.small c.format.ensures.ok
