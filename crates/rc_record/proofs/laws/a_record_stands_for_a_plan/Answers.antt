use Rattle.rc_record.proofs.Steps.{is_noted, stands_noted}
use Rattle.rc_record.proofs.Rising.{noted_rises}
use Rattle.rc_record.proofs.laws.a_record_stands_for_a_plan.Goals as goal

pub returns-clause-units : goal.returns-clause-units
returns-clause-units c = λ bytes noted e. (is_noted bytes noted (stands_noted bytes noted e)).units

pub returns-clause-finished : goal.returns-clause-finished
returns-clause-finished c = λ bytes noted e. (is_noted bytes noted (stands_noted bytes noted e)).finished

pub returns-clause-rising : goal.returns-clause-rising
returns-clause-rising c = λ bytes noted e. noted_rises bytes noted (is_noted bytes noted (stands_noted bytes noted e))
