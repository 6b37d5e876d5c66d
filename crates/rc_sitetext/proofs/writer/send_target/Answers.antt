use Rattle.std.proofs.Common.{◌≡◌, List, ℕ, ◌++◌, ap, subst, ◌∙◌}
use Rattle.std.specs.Prelude.{OnErr}
use Rattle.rc_tree.specs.Tree.{Tree}
use Rattle.rc_volume.specs.Streams.{AppendsFront}
use Rattle.rc_mem.specs.MemSite.{told_by}
use Rattle.rc_sitetext.specs.SiteText.{record_line, tree_lines}
use Rattle.rc_sitetext.specs.Writing.{target_text}
use Rattle.rc_sitetext.proofs.writer.send_target.Goals as goal

pub returns-clause-front : goal.returns-clause-front
returns-clause-front g c = λ told.
    let end : c.deref.result.now ≡ record_line (told_by c.args.site.now).notes = c.deref.ensures ∙ c.in-Ok.ensures ∙ ap record_line c.notes.ensures in
    let whole : tree_lines c.tree.result.now ++ c.deref.result.now ≡ target_text (told_by c.args.site.now) =
    ap (λ (t : Tree). tree_lines t ++ c.deref.result.now) c.tree.ensures ∙ ap (λ (t : List ℕ). tree_lines (told_by c.args.site.now).target ++ t) end in
    subst (λ (t : List ℕ). OnErr c.send_side.result (AppendsFront (g.K.Sink.received c.args.out.now) t (g.K.Sink.received c.send_side.new.out))) whole (c.send_side.ensures.front told)
