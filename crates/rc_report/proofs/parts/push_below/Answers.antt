use Rattle.std.proofs.Common.{◌≡◌, List, ℕ, ◌∷◌, ◌++◌, [], string_bytes, ◌∙◌, sym, ap, arith, append_assoc}
use Rattle.std.specs.Prelude.{encode_utf8_all}
use Rattle.std.proofs.lemmas.Str.{encodes-chars}
use Rattle.rc_report.proofs.TextLemmas.{pieces_more}
use Rattle.rc_report.proofs.parts.push_below.Goals as goal

pub loop-name-preserved : goal.loop-name-preserved
unfolding lib.Utf8.encode
loop-name-preserved c =
    let text : encode_utf8_all c.name-item.result ≡ c.text.result.now = ap encode_utf8_all (sym c.text.ensures.spelling) ∙ encodes-chars c.text.result.now c.text.utf8 in
    let grown : string_bytes c.push_str.new.self ≡ string_bytes c.loop-name.line ++ 92 ∷ encode_utf8_all c.name-item.result =
    c.in_ok-push_str.ensures.bytes ∙ ap (λ (bs : List ℕ). bs ++ c.text.result.now) c.in_ok-push.ensures.bytes
    ∙ append_assoc (string_bytes c.loop-name.line) (92 ∷ []) c.text.result.now
    ∙ ap (λ (bs : List ℕ). string_bytes c.loop-name.line ++ 92 ∷ bs) (sym text)
    in
    pieces_more (λ next. 92 ∷ encode_utf8_all next) c.args.names.now c.loop-name.name-index c.name-item.result _ _ _ (grind arith) c.name-item.is c.loop-name.invariant grown
