use Rattle.std.proofs.Common.{◌++◌, ap, ◌∙◌}
use Rattle.std.proofs.lemmas.Result.{on_ok_weaker}
use Rattle.rc_record.proofs.Lengths.{spelled}
use Rattle.rc_record.proofs.Pieces.{done_on_ok}
use Rattle.rc_record.proofs.spelling.put_name.Goals as goal

pub returns : goal.returns
returns c =
    on_ok_weaker c.extend_from_slice.result (λ is. is ∙ ap (λ t. c.args.bytes.now.items ++ t) (c.as_bytes.ensures.value ∙ spelled c.text.result.now c.args.name.now c.text.utf8 c.text.ensures.spelling)) (done_on_ok c.extend_from_slice.result _ _ _ c.extend_from_slice.ensures.items)
