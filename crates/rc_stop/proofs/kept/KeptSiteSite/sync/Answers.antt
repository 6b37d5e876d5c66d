use Rattle.std.proofs.Common.{◌≡◌, ◌∙◌, [], ◌∷◌, ◌++◌, arith, refl, subst}
use Rattle.rc_volume.specs.declared.site.Side.{Side}
use Rattle.rc_volume.specs.Faults.{part_for}
use Rattle.rc_volume.specs.Log.{LogsOn, synced}
use Rattle.rc_volume.specs.Site.{tree_in}
use Rattle.rc_mem.specs.MemSite.{seen_by}
use Rattle.rc_stop.proofs.KeptSteps.{kept-source, kept-target}
use Rattle.rc_stop.proofs.kept.KeptSiteSite.sync.Goals as goal

pub invariant_of-self : goal.invariant_of-self
invariant_of-self c =
    let O = c.self.inside.behind in
    let N = c.sync.new.self in
    let is = c.in-Source.is in
    kept-source O N c.self.inside.source c.self.inside.target (record { tree = c.in-Ok.tree; from = c.len.result }) c.self.inside.notes c.self.inside.touched.items c.self.invariant
    (subst (λ (s : Side). (seen_by N).log ≡ (seen_by O).log ++ synced s (tree_in (seen_by O) s) ∷ []) is (c.in-Ok-sync.ensures.log refl))
    (subst (λ (s : Side). LogsOn (part_for s) (seen_by O).log (seen_by N).log) is (c.sync.ensures.frame.log refl))
    (c.sync.ensures.frame.told refl) c.keep_shapes-2.ensures.source
    (subst (λ (s : Side). c.in-Ok.tree ≡ tree_in (seen_by O) s) is (c.in-Ok.ensures ∙ c.tree.ensures))
    (omega (arith, c.len.ensures, c.self.inside.touched.ok.0))

pub invariant_of-self-in-Target : goal.invariant_of-self-in-Target
invariant_of-self-in-Target c =
    let O = c.self.inside.behind in
    let N = c.sync.new.self in
    let is = c.in-Target.is in
    kept-target O N c.self.inside.source c.self.inside.target (record { tree = c.in-Ok.tree; from = c.len.result }) c.self.inside.notes c.self.inside.touched.items c.self.invariant
    (subst (λ (s : Side). (seen_by N).log ≡ (seen_by O).log ++ synced s (tree_in (seen_by O) s) ∷ []) is (c.in-Ok-sync.ensures.log refl))
    (subst (λ (s : Side). LogsOn (part_for s) (seen_by O).log (seen_by N).log) is (c.sync.ensures.frame.log refl))
    (c.sync.ensures.frame.told refl) c.keep_shapes-2.ensures.target
    (subst (λ (s : Side). c.in-Ok.tree ≡ tree_in (seen_by O) s) is (c.in-Ok.ensures ∙ c.tree.ensures))
    (omega (arith, c.len.ensures, c.self.inside.touched.ok.0))
