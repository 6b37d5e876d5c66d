-- The chain gives the folded characters, and the text that is collected spells them.
use Rattle.std.proofs.Common.{◌≡◌, chars, string_bytes, sym, rules}
use Rattle.std.proofs.Math.Utf8.{encodes}
use Rattle.std.proofs.lemmas.Iterator.{YieldsList-from_chars, YieldsList-from_map, text_from_collect}
use Rattle.std.proofs.lemmas.Result.{IfOk-at_ok}
use Rattle.std.proofs.lemmas.Str.{chars_from_encodes, IsUtf8-string_bytes}
use Rattle.unicode.specs.CaseFolding.{simple_fold}
use Rattle.rc_tree.specs.Name.{folded}
use Rattle.rc_tree.proofs.text.Text.folded.Goals as goal

pub returns : goal.returns
returns c =
    let all = folded (chars c.args.text.now) in
    let spelled = text_from_collect _ c.collect.ensures.ran (YieldsList-from_map _ simple_fold (YieldsList-from_chars c.args.text.now c.utf8.text cc) c.map.ensures.closure (λ x r q k. search rules)) in
    let e : string_bytes c.in_ok-collect.field-0 ≡ encodes all = IfOk-at_ok (λ w. string_bytes w ≡ encodes all) c.in_ok-collect.was spelled in
    sym (chars_from_encodes all (string_bytes c.in_ok-collect.field-0) (IsUtf8-string_bytes c.in_ok-collect.field-0) (sym e))
