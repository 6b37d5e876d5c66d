use Rattle.rc_stop.proofs.Picks.{notes-picks-called, notes-picks-other, notes-picks-synced}
use Rattle.rc_stop.proofs.laws.what_is_spoiled_may_be_left.Goals as goal

pub returns : goal.returns
returns c = record {
  synced = notes-picks-synced;
  called = notes-picks-called;
  elsewhere = notes-picks-other;
}
