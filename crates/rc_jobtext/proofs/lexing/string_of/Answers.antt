-- The string that is collected spells the characters.
use Rattle.std.proofs.Common.{◌≡◌, string_bytes, sym}
use Rattle.std.proofs.Math.Utf8.{encodes}
use Rattle.std.proofs.lemmas.Iterator.{YieldsList-from_slice, text_from_collect}
use Rattle.std.proofs.lemmas.Iterator.Consumers.{YieldsList-from_copied}
use Rattle.std.proofs.lemmas.Result.{IfOk-at_ok}
use Rattle.std.proofs.lemmas.Str.{chars_from_encodes, IsUtf8-string_bytes}
use Rattle.rc_jobtext.proofs.lexing.string_of.Goals as goal

pub returns : goal.returns
returns c =
    let all = c.args.letters.now in
    let text = c.in_ok-collect.field-0 in
    let spelled = text_from_collect _ c.collect.ensures.ran (YieldsList-from_copied (YieldsList-from_slice all cc)) in
    let e : string_bytes text ≡ encodes all = IfOk-at_ok (λ w. string_bytes w ≡ encodes all) c.in_ok-collect.was spelled in
    sym (chars_from_encodes all (string_bytes text) (IsUtf8-string_bytes text) (sym e))
