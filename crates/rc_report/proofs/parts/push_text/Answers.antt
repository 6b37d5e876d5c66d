use Rattle.std.proofs.Common.{List, ℕ, ◌++◌, string_bytes, sym, ap, ◌∙◌}
use Rattle.std.proofs.lemmas.Str.{encodes-chars}
use Rattle.rc_report.proofs.parts.push_text.Goals as goal

pub returns : goal.returns
returns c = c.in_ok-push_str.ensures.bytes ∙ ap (λ (bs : List ℕ). string_bytes c.args.line.now ++ bs) (sym (encodes-chars c.args.text.now c.utf8.text))
