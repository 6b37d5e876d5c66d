use Rattle.rc_stop.proofs.Picks.{picks-called, picks-other, picks-synced}
use Rattle.rc_stop.proofs.laws.what_is_picked_may_be_left.Goals as goal

pub returns : goal.returns
returns c = record {
  synced = picks-synced;
  called = picks-called;
  elsewhere = picks-other;
}
