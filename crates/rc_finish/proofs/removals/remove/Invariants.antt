use Rattle.std.proofs.Common.{◌≡◌, true}
use Rattle.rc_tree.specs.Path.{key_of}
use Rattle.rc_volume.specs.Faults.{on, part_for}
use Rattle.rc_volume.specs.Frames.{ChangesAt}
use Rattle.rc_volume.specs.Log.{changed, remove}
use Rattle.rc_volume.specs.Site.{tree_in, Goes, Maybe}
use Rattle.rc_volume.specs.Waits.{paused_by}
use Rattle.rc_finish.specs.Calls.{LogsEach}
use Rattle.rc_finish.specs.Passes.{IsBare}
use Rattle.rc_finish.proofs.removals.remove.Given as goal

abbrev pub invariant-loop : goal.invariant-loop
invariant-loop g l = record {
  frame : ChangesAt g.S.Site.tells l.side (key_of l.path) (Maybe Goes) (on (part_for l.side) l.counter) (g.S.Site.view l.fn.site) (g.S.Site.view l.site);
  bare : g.S.Site.tells ≡ true → IsBare (tree_in (g.S.Site.view l.site) l.side) (key_of l.path);
  calls : g.S.Site.tells ≡ true → LogsEach (changed l.side (key_of l.path) remove) (g.S.Site.view l.fn.site).log (g.S.Site.view l.site).log;
  always : g.C.Clock.tells ≡ true → g.C.Clock.always l.clock ≡ g.C.Clock.always l.fn.clock;
  last : g.C.Clock.last l.clock ≡ g.C.Clock.last l.fn.clock;
  unread : g.C.Clock.reads l.clock ≡ g.C.Clock.reads l.fn.clock;
  paused : g.C.Clock.paused l.clock ≡ paused_by l.tries.wait l.counter (g.C.Clock.paused l.fn.clock);
  no_pause : l.tries.retries ≡ 0 → g.C.Clock.paused l.clock ≡ g.C.Clock.paused l.fn.clock;
}
