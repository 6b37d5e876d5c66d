use Rattle.std.proofs.Common.{ℕ, List, [], ◌∷◌, ◌++◌, string_bytes, ap, ◌∙◌}
use Rattle.std.proofs.lemmas.Str.{IsUtf8-string_bytes}
use Rattle.rc_job.proofs.Characters.{pushed, one_char}
use Rattle.rc_job.proofs.lines.Lines.push.Goals as goal

pub returns : goal.returns
returns c =
    let text = c.self.inside.text in
    pushed (string_bytes text) _ (c.args.c ∷ []) _ _ (IsUtf8-string_bytes text) c.self.view_is
    (c.in_ok-push.ensures.bytes ∙ ap (λ (more : List ℕ). string_bytes text ++ more) (c.in_ok-push.ensures.ascii c.requires)) (one_char c.args.c c.requires)
