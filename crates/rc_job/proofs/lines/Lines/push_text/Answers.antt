use Rattle.std.proofs.Common.{string_bytes, refl}
use Rattle.std.proofs.lemmas.Str.{IsUtf8-string_bytes}
use Rattle.rc_job.proofs.Characters.{pushed}
use Rattle.rc_job.proofs.lines.Lines.push_text.Goals as goal

pub returns : goal.returns
returns c =
    let text = c.self.inside.text in
    pushed (string_bytes text) _ c.args.text.now _ _ (IsUtf8-string_bytes text) c.self.view_is c.in_ok-push_str.ensures.bytes refl
