use Rattle.std.proofs.Common.{List, ℕ, string_bytes, lit<, ap, sym, ◌∙◌, ◌++◌}
use Rattle.std.specs.Prelude.{encode_utf8_all}
use Rattle.std.proofs.lemmas.Str.{encodes-chars}
use Rattle.rc_sitetext.specs.SiteText.{hex_text}
use Rattle.rc_sitetext.specs.Writing.{job_text}
use Rattle.rc_sitetext.proofs.Appends.{job_put}
use Rattle.rc_sitetext.proofs.writer.put_job.Goals as goal

pub returns : goal.returns
returns c =
    let text = ap encode_utf8_all (sym c.text.ensures) ∙ encodes-chars c.text.result.now c.text.utf8 in
    job_put (string_bytes c.args.line.now) _ _ _ _ _ c.text.result.now (job_text c.args.job.now) c.in_ok-push_str.ensures.bytes c.in_ok-push_str-2.ensures.bytes (sym text)
    (rw (c.in_ok-push.ensures.ascii (lit< tt)) at c.in_ok-push.ensures.bytes)
    (c.in_ok-put_security.ensures ∙ ap (λ (b : List ℕ). string_bytes c.push.new.self ++ hex_text b) c.deref.ensures.value)
    c.in_ok-push_str-3.ensures.bytes
