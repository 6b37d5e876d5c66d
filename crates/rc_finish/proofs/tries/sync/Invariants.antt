use Rattle.std.proofs.Common.{◌≡◌, true}
use Rattle.rc_volume.specs.Faults.{on, part_for}
use Rattle.rc_volume.specs.Frames.{Looks}
use Rattle.rc_volume.specs.Waits.{paused_by}
use Rattle.rc_finish.proofs.tries.sync.Given as goal

abbrev pub invariant-loop : goal.invariant-loop
invariant-loop g l = record {
  frame : Looks g.S.Site.tells (on (part_for l.side) l.counter) (g.S.Site.view l.fn.site) (g.S.Site.view l.site);
  always : g.C.Clock.tells ≡ true → g.C.Clock.always l.clock ≡ g.C.Clock.always l.fn.clock;
  last : g.C.Clock.last l.clock ≡ g.C.Clock.last l.fn.clock;
  unread : g.C.Clock.reads l.clock ≡ g.C.Clock.reads l.fn.clock;
  paused : g.C.Clock.paused l.clock ≡ paused_by l.tries.wait l.counter (g.C.Clock.paused l.fn.clock);
  no_pause : l.tries.retries ≡ 0 → g.C.Clock.paused l.clock ≡ g.C.Clock.paused l.fn.clock;
}
