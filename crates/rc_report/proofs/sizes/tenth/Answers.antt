use Rattle.rc_report.proofs.Tenths.{tenth_is}
use Rattle.rc_report.proofs.sizes.tenth.Goals as goal

pub returns : goal.returns
returns c = tenth_is c.args.unit c.args.size c.requires
