use Rattle.std.proofs.Common.{◌≡◌, ◌++◌, ℕ, List, chars, string_bytes, ap, ◌∙◌}
use Rattle.std.proofs.lemmas.Str.{chars-append}
use Rattle.rc_run.proofs.outcome.job_line.Goals as goal

pub returns : goal.returns
returns c =
    let front = c.args.front.now in
    let name = c.text.result.now in
    ap chars (c.in_ok-push_str.ensures.bytes ∙ ap (λ (bs : List ℕ). bs ++ name) c.in_ok-line.ensures.ok)
    ∙ chars-append front name c.utf8.front
    ∙ ap (λ (cs : List ℕ). chars front ++ cs) c.text.ensures
