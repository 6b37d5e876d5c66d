use Rattle.rc_record.proofs.Attributes.{attr_known}
use Rattle.rc_record.proofs.codes.attr_of.Goals as goal

pub returns : goal.returns
returns c = attr_known c.args.kind c.args.stored c.read.result c.read.ensures.read c.read.ensures.refused
