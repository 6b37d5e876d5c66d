use Rattle.std.proofs.Common.{◌≡◌, List, ℕ, ◌∷◌, ◌++◌, [], chars, string_bytes, ◌∙◌, ap, arith, append_assoc}
use Rattle.std.specs.Prelude.{encode_utf8_all}
use Rattle.rc_report.proofs.TextLemmas.{pieces_more}
use Rattle.rc_report.proofs.header.push_others.Goals as goal

pub loop-file-preserved : goal.loop-file-preserved
unfolding lib.Utf8.encode
loop-file-preserved c =
    let line = string_bytes c.loop-file.line in
    let grown : string_bytes c.push_text.new.line ≡ line ++ 32 ∷ encode_utf8_all c.file-item.result =
    c.in_ok-push_text.ensures ∙ ap (λ (bs : List ℕ). bs ++ encode_utf8_all (chars c.text.result.now)) c.in_ok-push.ensures.bytes
    ∙ append_assoc line (32 ∷ []) (encode_utf8_all (chars c.text.result.now))
    ∙ ap (λ (name : List ℕ). line ++ 32 ∷ encode_utf8_all name) c.text.ensures.same
    in
    pieces_more (λ next. 32 ∷ encode_utf8_all next) c.args.files.now c.loop-file.file-index c.file-item.result _ _ _ (grind arith) c.file-item.is c.loop-file.invariant grown
