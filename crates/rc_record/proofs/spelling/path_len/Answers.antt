use Rattle.std.proofs.Common.{◌≡◌, ◌≤◌, ◌-◌, ◌∷◌, None, true, length, take, drop, sym, subst, ap, ◌∙◌, arith, length-append}
use Rattle.std.specs.Prelude.{encode_utf8_all}
use Rattle.std.specs.List.{flat_map}
use Rattle.std.specs.Str.{all_scalars}
use Rattle.std.proofs.lemmas.List.Elements.{All-cons}
use Rattle.rc_tree.specs.Name.{name_fault}
use Rattle.rc_record.specs.Spelling.{path_bytes, IsPathTyped}
use Rattle.rc_record.proofs.Lengths.{behind_end, path_below, path_typed}
use Rattle.rc_record.proofs.Pieces.{first_and_rest}
use Rattle.rc_record.proofs.spelling.path_len.Goals as goal

pub returns-in-len1-up-clause-len : goal.returns-in-len1-up-clause-len
returns-in-len1-up-clause-len c =
    let rest = take (length c.names.result.now - 1) (drop 1 c.names.result.now) in
    let path : c.args.path.now ≡ c.first-item.result ∷ rest = sym c.names.ensures.same ∙ first_and_rest c.names.result.now c.first-item.result (omega (arith, c.in-len1-up.len_at_least)) c.first-item.is in
    omega (arith, c.name_len.ensures.len, c.below_len.ensures.len, ap length (ap path_bytes path ∙ path_below c.first-item.result rest), length-append (encode_utf8_all c.first-item.result) (flat_map behind_end rest))

pub returns-in-len1-up-clause-typed : goal.returns-in-len1-up-clause-typed
returns-in-len1-up-clause-typed c =
    let rest = take (length c.names.result.now - 1) (drop 1 c.names.result.now) in
    let path : c.args.path.now ≡ c.first-item.result ∷ rest = sym c.names.ensures.same ∙ first_and_rest c.names.result.now c.first-item.result (omega (arith, c.in-len1-up.len_at_least)) c.first-item.is in
    let short : length (path_bytes (c.first-item.result ∷ rest)) ≤ 65535 = omega (arith, c.name_len.ensures.len, c.below_len.ensures.len, c.name_len.ensures.bound, c.below_len.ensures.bound, c.names.ensures.bound, ap length path, ap length (path_below c.first-item.result rest), length-append (encode_utf8_all c.first-item.result) (flat_map behind_end rest)) in
    subst IsPathTyped (sym path)
    (path_typed (c.first-item.result ∷ rest)
    (All-cons (λ name. name_fault name ≡ None) c.first-item.result rest c.name_len.ensures.named c.below_len.ensures.named)
    (All-cons (λ name. all_scalars name ≡ true) c.first-item.result rest c.name_len.ensures.characters c.below_len.ensures.characters)
    (omega (arith, ap length path, c.names.ensures.bound))
    short)
