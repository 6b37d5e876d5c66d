use Rattle.std.proofs.Common.{◌≡◌, true, ◌-◌, ◌*◌, ◌+◌, ◌^◌, length, vec_len}
use Rattle.rc_volume.specs.Faults.{free}
use Rattle.rc_volume.specs.Frames.{Looks}
use Rattle.rc_volume.specs.Site.{tree_in}
use Rattle.rc_volume.specs.Waits.{Waits}
use Rattle.rc_plan.proofs.Walks.{Walks}
use Rattle.rc_plan.proofs.entries.read_side.Given as goal

abbrev pub invariant-entries : goal.invariant-entries
invariant-entries g l = record {
  walks : Walks g.S.Site.tells (tree_in (g.S.Site.view l.fn.site) l.side) l.place l.found.items;
  frame : Looks g.S.Site.tells free (g.S.Site.view l.fn.site) (g.S.Site.view l.site);
  waits : Waits l.job.wait free (g.S.Site.view l.fn.site).faults (g.S.Site.view l.site).faults (g.C.Clock.paused l.fn.clock) (g.C.Clock.paused l.clock);
  no_pause : l.job.retries ≡ 0 → g.C.Clock.paused l.clock ≡ g.C.Clock.paused l.fn.clock;
  always : g.C.Clock.tells ≡ true → g.C.Clock.always l.clock ≡ g.C.Clock.always l.fn.clock;
  last : g.C.Clock.last l.clock ≡ g.C.Clock.last l.fn.clock;
  unread : g.C.Clock.reads l.clock ≡ g.C.Clock.reads l.fn.clock;
}

abbrev pub decreases-entries : goal.decreases-entries
decreases-entries g l = (2 ^ 64 - vec_len l.found) * 66 + length l.place.dir
