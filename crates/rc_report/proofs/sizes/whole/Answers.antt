use Rattle.rc_report.proofs.Tenths.{whole_is}
use Rattle.rc_report.proofs.sizes.whole.Goals as goal

pub returns : goal.returns
returns c = whole_is c.args.unit c.args.size c.requires
