use Rattle.std.proofs.Common.{◌++◌, ap, ◌∙◌}
use Rattle.std.proofs.lemmas.Result.{on_ok_weaker}
use Rattle.rc_record.proofs.Lengths.{are_characters, spelled}
use Rattle.rc_record.proofs.Pieces.{done_on_ok}
use Rattle.rc_record.proofs.spelling.put_job.Goals as goal

pub returns-clause-text : goal.returns-clause-text
returns-clause-text c =
    on_ok_weaker c.extend_from_slice.result (λ is. is ∙ ap (λ t. c.args.bytes.now.items ++ t) (c.as_bytes.ensures.value ∙ spelled c.text.result.now c.args.plan.now.job c.text.utf8 c.text.ensures)) (done_on_ok c.extend_from_slice.result _ _ _ c.extend_from_slice.ensures.items)

pub returns-clause-characters : goal.returns-clause-characters
returns-clause-characters c = are_characters c.text.result.now c.args.plan.now.job c.text.utf8 c.text.ensures
