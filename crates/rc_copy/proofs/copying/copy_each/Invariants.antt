use Rattle.std.proofs.Common.{◌≡◌, true, length, take}
use Rattle.rc_volume.specs.declared.site.Side.TheVariants.{Target}
use Rattle.rc_volume.specs.Faults.{free}
use Rattle.rc_volume.specs.Frames.{ChangesSide}
use Rattle.rc_finish.specs.Passes.{HasPassed}
use Rattle.rc_copy.specs.Copying.{copied}
use Rattle.rc_copy.proofs.copying.copy_each.Given as goal

abbrev pub invariant-loop-item : goal.invariant-loop-item
invariant-loop-item g l = record {
  passed : g.S.Site.tells ≡ true → HasPassed (copied l.copying) (take l.item-index l.items) (g.S.Site.view l.fn.site).told (g.S.Site.view l.site).told.target;
  frame : ChangesSide g.S.Site.tells Target free (g.S.Site.view l.fn.site) (g.S.Site.view l.site);
  buffer : length l.buf ≡ length l.fn.buf;
}
