use Rattle.std.proofs.Common.{◌++◌, [], sym, ap, subst, ◌∙◌, append_assoc, List, ℕ}
use Rattle.std.specs.Prelude.{codes}
use Rattle.std.proofs.lemmas.List.{append-nil}
use Rattle.rc_tree.specs.Tree.{Tree}
use Rattle.rc_volume.specs.Streams.{AppendsFront}
use Rattle.rc_mem.specs.MemSite.{told_by}
use Rattle.rc_sitetext.specs.SiteText.{head_text, tree_lines}
use Rattle.rc_sitetext.specs.Writing.{jobs_text, target_text}
use Rattle.rc_sitetext.proofs.Appends.{behind, four_parts}
use Rattle.rc_sitetext.proofs.Sends.{are_files, on_err, front_in, front_first, texts_of}
use Rattle.rc_sitetext.proofs.writer.write_site.Goals as goal

pub returns-in_err-send_head-clause-front : goal.returns-in_err-send_head-clause-front
returns-in_err-send_head-clause-front g c = λ told.
    let seen = told_by c.args.site.now in
    let head : List ℕ = head_text c.args.moment in
    let source : List ℕ = tree_lines seen.source ++ codes "TARGET\n" in
    let target : List ℕ = target_text seen in
    let texts = texts_of c.files-files.result in
    let jobs : List ℕ = jobs_text texts in
    let are = are_files c.args.jobs.now c.files-files.result c.files-files.ensures in
    on_err c.from_residual.result
    (texts, are, front_first (g.K.Sink.received c.args.out.now) (g.K.Sink.received c.send_head.new.out) head (source ++ (target ++ jobs)) (head ++ source ++ target ++ jobs) (c.in_err-send_head.ensures.front told) (four_parts head source target jobs))

pub returns-in_err-send_side-clause-front : goal.returns-in_err-send_side-clause-front
returns-in_err-send_side-clause-front g c = λ told.
    let seen = told_by c.args.site.now in
    let head : List ℕ = head_text c.args.moment in
    let source : List ℕ = tree_lines seen.source ++ codes "TARGET\n" in
    let target : List ℕ = target_text seen in
    let texts = texts_of c.files-files.result in
    let jobs : List ℕ = jobs_text texts in
    let are = are_files c.args.jobs.now c.files-files.result c.files-files.ensures in
    let front = subst (λ (t : Tree). AppendsFront (g.K.Sink.received c.send_head.new.out) (tree_lines t ++ codes "TARGET\n") (g.K.Sink.received c.send_side.new.out)) c.tree.ensures (c.in_err-send_side.ensures.front told) in
    on_err c.from_residual-in_err-send_side.result (
      texts,
      are,
      front_in (g.K.Sink.received c.args.out.now) (g.K.Sink.received c.send_head.new.out) (g.K.Sink.received c.send_side.new.out) head source (target ++ jobs) (head ++ source ++ target ++ jobs)
          (c.in_ok-send_head.ensures.written told) front (four_parts head source target jobs),
    )

pub returns-in_err-send_target-clause-front : goal.returns-in_err-send_target-clause-front
returns-in_err-send_target-clause-front g c = λ told.
    let seen = told_by c.args.site.now in
    let head : List ℕ = head_text c.args.moment in
    let source : List ℕ = tree_lines seen.source ++ codes "TARGET\n" in
    let target : List ℕ = target_text seen in
    let texts = texts_of c.files-files.result in
    let jobs : List ℕ = jobs_text texts in
    let are = are_files c.args.jobs.now c.files-files.result c.files-files.ensures in
    let first = c.in_ok-send_side.ensures.written told ∙ ap (λ (t : Tree). g.K.Sink.received c.send_head.new.out ++ (tree_lines t ++ codes "TARGET\n")) c.tree.ensures in
    let before = behind (g.K.Sink.received c.args.out.now) head source (g.K.Sink.received c.send_head.new.out) (g.K.Sink.received c.send_side.new.out) (c.in_ok-send_head.ensures.written told) first in
    on_err c.from_residual-in_err-send_target.result (
      texts,
      are,
      front_in (g.K.Sink.received c.args.out.now) (g.K.Sink.received c.send_side.new.out) (g.K.Sink.received c.send_target.new.out) (head ++ source) target jobs (head ++ source ++ target ++ jobs)
          before (c.in_err-send_target.ensures.front told) (append_assoc (head ++ source) target jobs),
    )

pub returns-in_err-send_jobs-clause-front : goal.returns-in_err-send_jobs-clause-front
returns-in_err-send_jobs-clause-front g c = λ told.
    let seen = told_by c.args.site.now in
    let head : List ℕ = head_text c.args.moment in
    let source : List ℕ = tree_lines seen.source ++ codes "TARGET\n" in
    let target : List ℕ = target_text seen in
    let texts = texts_of c.files-files.result in
    let jobs : List ℕ = jobs_text texts in
    let are = are_files c.args.jobs.now c.files-files.result c.files-files.ensures in
    let first = c.in_ok-send_side.ensures.written told ∙ ap (λ (t : Tree). g.K.Sink.received c.send_head.new.out ++ (tree_lines t ++ codes "TARGET\n")) c.tree.ensures in
    let before = behind (g.K.Sink.received c.args.out.now) head source (g.K.Sink.received c.send_head.new.out) (g.K.Sink.received c.send_side.new.out) (c.in_ok-send_head.ensures.written told) first in
    let both = behind (g.K.Sink.received c.args.out.now) (head ++ source) target (g.K.Sink.received c.send_side.new.out) (g.K.Sink.received c.send_target.new.out) before (c.in_ok-send_target.ensures.written told) in
    on_err c.from_residual-in_err-send_jobs.result (
      texts,
      are,
      front_in (g.K.Sink.received c.args.out.now) (g.K.Sink.received c.send_target.new.out) (g.K.Sink.received c.send_jobs.new.out) (head ++ source ++ target) jobs [] (head ++ source ++ target ++ jobs)
          both (c.in_err-send_jobs.ensures.front told) (ap (λ (t : List ℕ). head ++ source ++ target ++ t) (sym (append-nil jobs))),
    )

pub returns-clause-written : goal.returns-clause-written
returns-clause-written g c = λ told.
    let seen = told_by c.args.site.now in
    let head : List ℕ = head_text c.args.moment in
    let source : List ℕ = tree_lines seen.source ++ codes "TARGET\n" in
    let target : List ℕ = target_text seen in
    let texts = texts_of c.files-files.result in
    let jobs : List ℕ = jobs_text texts in
    let are = are_files c.args.jobs.now c.files-files.result c.files-files.ensures in
    let first = c.in_ok-send_side.ensures.written told ∙ ap (λ (t : Tree). g.K.Sink.received c.send_head.new.out ++ (tree_lines t ++ codes "TARGET\n")) c.tree.ensures in
    let before = behind (g.K.Sink.received c.args.out.now) head source (g.K.Sink.received c.send_head.new.out) (g.K.Sink.received c.send_side.new.out) (c.in_ok-send_head.ensures.written told) first in
    let both = behind (g.K.Sink.received c.args.out.now) (head ++ source) target (g.K.Sink.received c.send_side.new.out) (g.K.Sink.received c.send_target.new.out) before (c.in_ok-send_target.ensures.written told) in
    (texts, are, behind (g.K.Sink.received c.args.out.now) (head ++ source ++ target) jobs (g.K.Sink.received c.send_target.new.out) (g.K.Sink.received c.send_jobs.new.out) both (c.in_ok-send_jobs.ensures.written told))
