use Rattle.std.proofs.Common.{◌+◌, ◌≤◌, length, refl, sym, subst}
use Rattle.rc_tree.specs.Path.{key_of}
use Rattle.rc_volume.specs.Log.{put}
use Rattle.rc_volume.specs.Site.{Becomes, HasFile, IsTorn, Turns, node_at, tree_in, written_at}
use Rattle.rc_volume.proofs.ReadLemmas.{put_steps}
use Rattle.rc_mem.specs.declared.site.MemSite.{MemSite}
use Rattle.rc_mem.specs.MemSite.{seen_by}
use Rattle.rc_stop.proofs.KeptSteps.{kept-behind}
use Rattle.rc_stop.proofs.kept.KeptSiteSite.put.Goals as goal

pub invariant_of-self : goal.invariant_of-self
invariant_of-self c =
    let O = c.self.inside.behind in
    let N = c.put-answer.new.self in
    let side = c.args.side in
    let path = c.args.path.now in
    let frame = c.put-answer.ensures.frame in
    let within : HasFile (tree_in (seen_by O) side) (key_of path) (λ node. c.args.off + length c.args.bytes.now ≤ length node.bytes) =
    subst (λ (s : MemSite). HasFile (tree_in (seen_by s) side) (key_of path) (λ node. c.args.off + length c.args.bytes.now ≤ length node.bytes)) (sym c.self.view_is) (c.requires.within refl) in
    kept-behind O N c.self.inside.source c.self.inside.target c.self.inside.notes c.self.inside.touched.items c.touch.new.touched.items c.settle.new.touched.items side path (put c.args.off (length c.args.bytes.now))
    c.log_len-before.result c.self.invariant c.log_len-before.ensures (record { noted = c.in-Ok.ensures.touched; stood = c.settle.ensures.stood; came = c.settle.ensures.came })
    (frame.log refl) (frame.elsewhere refl) (put_steps c.put-answer.result c.args.off c.args.bytes.now (node_at (seen_by O).told side (key_of path)) (node_at (seen_by N).told side (key_of path)) within (frame.here refl)) tt c.settle.ensures.source c.settle.ensures.target c.put-answer.result
    (Becomes (written_at c.args.off c.args.bytes.now)) (Turns (IsTorn c.args.off (length c.args.bytes.now))) (frame.here refl) (c.put-answer.ensures.log refl)
