use Rattle.rc_record.proofs.SpelledRecord.{stands_so}
use Rattle.rc_record.proofs.laws.a_spelled_record_stands_for_its_plan.Goals as goal

pub returns : goal.returns
returns c = stands_so
