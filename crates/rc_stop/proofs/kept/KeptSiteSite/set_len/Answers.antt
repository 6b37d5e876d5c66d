use Rattle.std.proofs.Common.{refl}
use Rattle.rc_tree.specs.Path.{key_of}
use Rattle.rc_volume.specs.Log.{resize}
use Rattle.rc_volume.specs.Site.{Becomes, IsHalfResized, Turns, node_at, resized}
use Rattle.rc_volume.proofs.ReadLemmas.{resize_steps}
use Rattle.rc_mem.specs.MemSite.{seen_by}
use Rattle.rc_stop.proofs.KeptSteps.{kept-behind}
use Rattle.rc_stop.proofs.kept.KeptSiteSite.set_len.Goals as goal

pub invariant_of-self : goal.invariant_of-self
invariant_of-self c =
    let O = c.self.inside.behind in
    let N = c.set_len-answer.new.self in
    let side = c.args.side in
    let path = c.args.path.now in
    let frame = c.set_len-answer.ensures.frame in
    kept-behind O N c.self.inside.source c.self.inside.target c.self.inside.notes c.self.inside.touched.items c.touch.new.touched.items c.settle.new.touched.items side path (resize c.args.len)
    c.log_len-before.result c.self.invariant c.log_len-before.ensures (record { noted = c.in-Ok.ensures.touched; stood = c.settle.ensures.stood; came = c.settle.ensures.came })
    (frame.log refl) (frame.elsewhere refl) (resize_steps c.set_len-answer.result c.args.len (node_at (seen_by O).told side (key_of path)) (node_at (seen_by N).told side (key_of path)) (frame.here refl)) tt c.settle.ensures.source c.settle.ensures.target c.set_len-answer.result
    (Becomes (resized c.args.len)) (Turns (IsHalfResized c.args.len)) (frame.here refl) (c.set_len-answer.ensures.log refl)
