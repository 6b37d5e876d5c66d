use Rattle.std.proofs.Common.{◌≡◌, ℕ, List, subst}
use Rattle.rc_tree.specs.Tree.{Tree}
use Rattle.rc_volume.specs.declared.site.Side.TheVariants.{Source, Target}
use Rattle.rc_volume.specs.Images.{IsImage}
use Rattle.rc_stop.specs.declared.kept.Touched.{Touched}
use Rattle.rc_mem.specs.declared.site.MemSite.{MemSite}
use Rattle.rc_stop.specs.KeptSite.{kept_of, notes_of}
use Rattle.rc_mem.specs.MemSite.{seen_by, told_by}
use Rattle.rc_stop.specs.Stops.{record_left, side_left}
use Rattle.rc_stop.proofs.Draws.{if_ok-to}
use Rattle.rc_stop.proofs.Lefts.{image-left}
use Rattle.rc_stop.proofs.kept.KeptSite.image.Goals as goal

pub returns-clause-left : goal.returns-clause-left
returns-clause-left c =
    let kept = c.self.inside in
    let choice = c.args.choice in
    let first = c.in_ok-first.first in
    let second = c.in_ok-second.second in
    let notes = c.in_ok-notes.notes.items in
    let one : side_left choice choice (kept_of Source kept.source kept.touched.items) (told_by kept.behind).source first.tree = subst (λ (ts : List Touched). side_left choice choice (kept_of Source kept.source ts) (told_by kept.behind).source first.tree) c.deref.ensures.value
    (subst (λ (t : Tree). side_left choice choice (kept_of Source kept.source c.deref.result.now) t first.tree) c.tree.ensures c.in_ok-first.ensures.left) in
    let two : side_left choice first.state (kept_of Target kept.target kept.touched.items) (told_by kept.behind).target second.tree = subst (λ (ts : List Touched). side_left choice first.state (kept_of Target kept.target ts) (told_by kept.behind).target second.tree) c.deref-2.ensures.value
    (subst (λ (t : Tree). side_left choice first.state (kept_of Target kept.target c.deref-2.result.now) t second.tree) c.tree-2.ensures c.in_ok-second.ensures.left) in
    let three : notes ≡ record_left choice second.state (notes_of kept.notes) (told_by kept.behind).notes = subst (λ (bytes : List ℕ). notes ≡ record_left choice second.state (notes_of kept.notes) bytes) c.notes.ensures c.in_ok-notes.ensures in
    if_ok-to (λ (site : MemSite). told_by site ≡ record { source = first.tree; target = second.tree; notes = notes }) (λ (site : MemSite). IsImage (seen_by c.args.self.now).log (told_by site)) c.new.result
    (λ site told. subst (λ (s : MemSite). IsImage (seen_by s).log (told_by site)) c.self.view_is
    (image-left kept.behind kept.source kept.target kept.notes kept.touched.items choice choice first.state second.state first.tree second.tree notes (told_by site) c.self.invariant one two three told))
    c.new.ensures.told
