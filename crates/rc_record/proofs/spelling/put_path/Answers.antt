use Rattle.std.proofs.Common.{◌≡◌, ◌++◌, ◌-◌, ◌∷◌, length, take, drop, sym, ap, ◌∙◌, arith}
use Rattle.std.proofs.lemmas.Result.{on_ok_weaker}
use Rattle.rc_record.specs.Spelling.{path_bytes}
use Rattle.rc_record.proofs.Lengths.{path_below}
use Rattle.rc_record.proofs.Pieces.{first_and_rest, two_put}
use Rattle.rc_record.proofs.spelling.put_path.Goals as goal

pub returns-in_ok-put_name-in-len1-up : goal.returns-in_ok-put_name-in-len1-up
returns-in_ok-put_name-in-len1-up c =
    let rest = take (length c.names.result.now - 1) (drop 1 c.names.result.now) in
    let path : c.args.path.now ≡ c.first-item.result ∷ rest = sym c.names.ensures.same ∙ first_and_rest c.names.result.now c.first-item.result (omega (arith, c.in-len1-up.len_at_least)) c.first-item.is in
    on_ok_weaker c.put_below.result
    (λ is. two_put _ _ _ _ _ c.in_ok-put_name-in-len1-up.ensures is ∙ ap (λ t. c.args.bytes.now.items ++ t) (sym (ap path_bytes path ∙ path_below c.first-item.result rest)))
    c.put_below.ensures
