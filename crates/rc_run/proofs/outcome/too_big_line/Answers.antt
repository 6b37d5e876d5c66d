use Rattle.std.proofs.Common.{◌≡◌, ◌++◌, codes, decimal, chars, string_bytes, ap, ◌∙◌, arith}
use Rattle.std.proofs.lemmas.Result.{IfOk-weaker}
use Rattle.std.proofs.lemmas.Str.{IsUtf8-string_bytes}
use Rattle.rc_run.specs.declared.outcome.Outcome.TheVariants.{TooBig}
use Rattle.rc_run.specs.Outcome.{line_of}
use Rattle.rc_run.proofs.OutcomeLemmas.{too_big_chars}
use Rattle.rc_run.proofs.outcome.too_big_line.Goals as goal

pub returns : goal.returns
returns c =
    let path = string_bytes c.in_ok-path.path in
    IfOk-weaker c.format.result
    (λ line. string_bytes line ≡ codes "ERROR: file too big: " ++ (path ++ (codes " " ++ decimal c.args.size)))
    (λ line. chars (string_bytes line) ≡ line_of (TooBig c.args.path.now c.args.size))
    (λ line is. ap chars is ∙ too_big_chars c.args.path.now path c.args.size c.in_ok-path.ensures (IsUtf8-string_bytes c.in_ok-path.path) (omega arith))
    c.format.ensures.ok
