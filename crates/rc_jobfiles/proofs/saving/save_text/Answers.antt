use Rattle.std.proofs.Common.{◌≡◌, subst, sym, ap, ◌∙◌}
use Rattle.std.specs.Prelude.{IfOk, encode_utf8_all}
use Rattle.std.specs.Str.{IsUtf8}
use Rattle.std.proofs.lemmas.Result.{IfOk-weaker}
use Rattle.std.proofs.lemmas.Str.{encodes-chars}
use Rattle.rc_job.specs.Settings.{canonical}
use Rattle.rc_jobfiles.proofs.saving.save_text.Goals as goal

pub returns-clause-bytes : goal.returns-clause-bytes
returns-clause-bytes c =
    let text = c.text-3.result.now in
    let e : text ≡ encode_utf8_all (canonical c.args.job.now) = sym (encodes-chars text c.text-3.utf8) ∙ ap encode_utf8_all (c.text-3.ensures ∙ c.in_ok-text.ensures) in
    subst (λ bs. IfOk c.bytes_of.result (λ bytes. bytes.items ≡ bs)) e c.bytes_of.ensures

pub returns-clause-utf8 : goal.returns-clause-utf8
returns-clause-utf8 c =
    IfOk-weaker c.bytes_of.result _ _ (λ bytes e. subst IsUtf8 (sym e) c.text-3.utf8) c.bytes_of.ensures
