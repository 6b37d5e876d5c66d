use Rattle.std.proofs.Common.{refl, sym, subst}
use Rattle.rc_tree.specs.Path.{key_of, last_name}
use Rattle.rc_volume.specs.Log.{make}
use Rattle.rc_volume.specs.Site.{Comes, IsVacant, Maybe, fresh_dir, node_at, tree_in}
use Rattle.rc_volume.proofs.ReadLemmas.{made_steps}
use Rattle.rc_mem.specs.declared.site.MemSite.{MemSite}
use Rattle.rc_mem.specs.MemSite.{seen_by}
use Rattle.rc_stop.proofs.KeptSteps.{kept-behind}
use Rattle.rc_stop.proofs.kept.KeptSiteSite.make_dir.Goals as goal

pub invariant_of-self : goal.invariant_of-self
invariant_of-self c =
    let O = c.self.inside.behind in
    let N = c.make_dir-answer.new.self in
    let side = c.args.side in
    let path = c.args.path.now in
    let frame = c.make_dir-answer.ensures.frame in
    let vacant : IsVacant (tree_in (seen_by O) side) path = subst (λ (s : MemSite). IsVacant (tree_in (seen_by s) side) path) (sym c.self.view_is) (c.requires refl) in
    kept-behind O N c.self.inside.source c.self.inside.target c.self.inside.notes c.self.inside.touched.items c.touch.new.touched.items c.settle.new.touched.items side path (make (fresh_dir (last_name path)))
    c.log_len-before.result c.self.invariant c.log_len-before.ensures (record { noted = c.in-Ok.ensures.touched; stood = c.settle.ensures.stood; came = c.settle.ensures.came })
    (frame.log refl) (frame.elsewhere refl) (made_steps c.make_dir-answer.result (fresh_dir (last_name path)) (node_at (seen_by O).told side (key_of path)) (node_at (seen_by N).told side (key_of path)) vacant.absent (frame.here refl)) (vacant.absent, refl) c.settle.ensures.source c.settle.ensures.target c.make_dir-answer.result
    (Comes (fresh_dir (last_name path))) (Maybe (Comes (fresh_dir (last_name path)))) (frame.here refl) (c.make_dir-answer.ensures.log refl)
