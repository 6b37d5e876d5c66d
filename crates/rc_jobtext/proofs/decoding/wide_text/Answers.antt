-- Without an unpaired surrogate the text that is made is that of the units.
use Rattle.std.proofs.Common.{◌≡◌, string_bytes, sym, ap, chars, ◌∙◌}
use Rattle.std.specs.Prelude.{encode_utf8_all, is_err}
use Rattle.std.specs.Char.Utf16.{utf16_lossy_chars}
use Rattle.std.proofs.lemmas.Result.{IfOk-at_ok}
use Rattle.std.proofs.lemmas.Str.{chars_from_encodes, IsUtf8-string_bytes}
use Rattle.rc_jobtext.proofs.Parts.{paired}
use Rattle.rc_jobtext.proofs.decoding.wide_text.Goals as goal

pub returns-in-Ok : goal.returns-in-Ok
returns-in-Ok c =
    let cs = utf16_lossy_chars c.args.units.now in
    let text = c.in-Ok.text in
    let spelled : string_bytes text ≡ encode_utf8_all cs = IfOk-at_ok (λ s. string_bytes s ≡ encode_utf8_all cs) c.in-Ok.is c.in_ok-text.ensures.chars in
    paired _ cs (chars (string_bytes text)) (ap (λ r. is_err r) (sym c.in-Ok.is) ∙ c.in_ok-text.ensures.unpaired)
    (chars_from_encodes cs (string_bytes text) (IsUtf8-string_bytes text) (sym spelled))
