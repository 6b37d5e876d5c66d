use Rattle.std.proofs.Common.{◌≡◌, ◌≤◌, ◌-◌, true, length}
use Rattle.rc_tree.specs.Path.{key_of}
use Rattle.rc_volume.specs.declared.site.Side.TheVariants.{Target}
use Rattle.rc_volume.specs.Faults.{free}
use Rattle.rc_volume.specs.Site.{node_at}
use Rattle.rc_copy.specs.Copying.{ChangesTarget}
use Rattle.rc_copy.proofs.CopyLemmas.{IsFilled}
use Rattle.rc_copy.proofs.filling.copy_bytes.Given as goal

abbrev pub invariant-loop-off : goal.invariant-loop-off
invariant-loop-off g l = record {
  within : l.off ≤ l.size;
  filled : g.S.Site.tells ≡ true → IsFilled (g.S.Reader.Reader.bytes l.reader (key_of l.path)) l.size l.off (node_at (g.S.Site.view l.fn.site).told Target (key_of l.path)) (node_at (g.S.Site.view l.site).told Target (key_of l.path));
  frame : ChangesTarget g.S.Site.tells (key_of l.path) free (g.S.Site.view l.fn.site) (g.S.Site.view l.site);
  buffer : length l.buf ≡ length l.fn.buf;
}

abbrev pub decreases-loop-off : goal.decreases-loop-off
decreases-loop-off g l = l.size - l.off
