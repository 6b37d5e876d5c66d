use Rattle.std.proofs.Common.{◌≡◌, true}
use Rattle.rc_tree.specs.Path.{key_of, last_name}
use Rattle.rc_volume.specs.declared.site.Part.TheVariants as part
use Rattle.rc_volume.specs.declared.site.Side.TheVariants.{Target}
use Rattle.rc_volume.specs.Faults.{on}
use Rattle.rc_volume.specs.Frames.{ChangesAt}
use Rattle.rc_volume.specs.Log.{changed, make}
use Rattle.rc_volume.specs.Site.{fresh_dir, Maybe}
use Rattle.rc_volume.specs.Waits.{paused_by}
use Rattle.rc_finish.specs.Calls.{LogsEach}
use Rattle.rc_finish.specs.Passes.{directory_at, IsMakable, IsNow}
use Rattle.rc_finish.proofs.directories.make.Given as goal

abbrev pub invariant-loop : goal.invariant-loop
invariant-loop g l = record {
  frame : ChangesAt g.S.Site.tells Target (key_of l.path) (Maybe (IsNow (directory_at l.path))) (on part.Target l.counter) (g.S.Site.view l.fn.site) (g.S.Site.view l.site);
  place : g.S.Site.tells ≡ true → IsMakable (g.S.Site.view l.site).told.target l.path;
  calls : g.S.Site.tells ≡ true → LogsEach (changed Target (key_of l.path) (make (fresh_dir (last_name l.path)))) (g.S.Site.view l.fn.site).log (g.S.Site.view l.site).log;
  always : g.C.Clock.tells ≡ true → g.C.Clock.always l.clock ≡ g.C.Clock.always l.fn.clock;
  last : g.C.Clock.last l.clock ≡ g.C.Clock.last l.fn.clock;
  unread : g.C.Clock.reads l.clock ≡ g.C.Clock.reads l.fn.clock;
  paused : g.C.Clock.paused l.clock ≡ paused_by l.tries.wait l.counter (g.C.Clock.paused l.fn.clock);
  no_pause : l.tries.retries ≡ 0 → g.C.Clock.paused l.clock ≡ g.C.Clock.paused l.fn.clock;
}
