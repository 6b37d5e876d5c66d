use Rattle.rc_class.proofs.Ranges.{inside, apart, cover}
use Rattle.rc_class.proofs.laws.ranges_fill_a_file.Goals as goal

pub returns-clause-inside : goal.returns-clause-inside
returns-clause-inside c = inside

pub returns-clause-apart : goal.returns-clause-apart
returns-clause-apart c = apart

pub returns-clause-cover : goal.returns-clause-cover
returns-clause-cover c = cover
