use Rattle.std.proofs.Common.{◌≡◌, ℕ, List, chars, length, nat_lt, ap, sym, ◌∙◌}
use Rattle.std.specs.Prelude.{encode_utf8_all}
use Rattle.std.proofs.lemmas.Str.{encodes-chars}
use Rattle.rc_job.specs.Settings.{canonical}
use Rattle.rc_jobfiles.proofs.refusal.is_too_long.Goals as goal

pub returns-in-Ok : goal.returns-in-Ok
returns-in-Ok c =
    let bytes = c.text-in-Ok-2.result.now in
    let same : chars bytes ≡ canonical c.args.job.now = c.text-in-Ok-2.ensures ∙ c.in-Ok.ensures in
    ap (λ (bs : List ℕ). nat_lt 16777216 (length bs)) (sym (encodes-chars bytes c.text-in-Ok-2.utf8) ∙ ap encode_utf8_all same)
