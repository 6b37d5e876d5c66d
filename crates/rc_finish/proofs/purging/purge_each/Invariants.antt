use Rattle.std.proofs.Common.{◌≡◌, ◌≤◌, true, drop, length}
use Rattle.rc_volume.specs.declared.site.Side.TheVariants.{Target}
use Rattle.rc_volume.specs.Faults.{free}
use Rattle.rc_volume.specs.Frames.{ChangesSide}
use Rattle.rc_volume.specs.Waits.{Waits}
use Rattle.rc_finish.specs.Calls.{LogsCalls, Purges}
use Rattle.rc_finish.specs.Passes.{purged, HasPassed}
use Rattle.rc_finish.proofs.purging.purge_each.Given as goal

abbrev pub invariant-loop-left : goal.invariant-loop-left
invariant-loop-left g l = record {
  within : l.left ≤ length l.items;
  frame : ChangesSide g.S.Site.tells Target free (g.S.Site.view l.fn.site) (g.S.Site.view l.site);
  has_passed : g.S.Site.tells ≡ true → HasPassed purged (drop l.left l.items) (g.S.Site.view l.fn.site).told (g.S.Site.view l.site).told.target;
  calls : g.S.Site.tells ≡ true → LogsCalls Purges l.items (g.S.Site.view l.fn.site).log (g.S.Site.view l.site).log;
  always : g.C.Clock.tells ≡ true → g.C.Clock.always l.clock ≡ g.C.Clock.always l.fn.clock;
  last : g.C.Clock.last l.clock ≡ g.C.Clock.last l.fn.clock;
  unread : g.C.Clock.reads l.clock ≡ g.C.Clock.reads l.fn.clock;
  waits : Waits l.tries.wait free (g.S.Site.view l.fn.site).faults (g.S.Site.view l.site).faults (g.C.Clock.paused l.fn.clock) (g.C.Clock.paused l.clock);
  no_pause : l.tries.retries ≡ 0 → g.C.Clock.paused l.clock ≡ g.C.Clock.paused l.fn.clock;
}

abbrev pub decreases-loop-left : goal.decreases-loop-left
decreases-loop-left g l = l.left
