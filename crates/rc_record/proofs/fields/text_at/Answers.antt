use Rattle.rc_record.proofs.Texts.{text_read, no_text}
use Rattle.rc_record.proofs.fields.text_at.Goals as goal

pub returns-in-Ok-clause-text : goal.returns-in-Ok-clause-text
returns-in-Ok-clause-text c =
    let same = c.in-Ok.ensures.cases.0 in
    rw same (text_read c.args.len c.args.off c.args.bytes.now c.in_ok-field.field.now c.in_ok-field.ensures.field c.in-Ok.ensures.cases.1)

pub returns-in-Err-clause-text : goal.returns-in-Err-clause-text
returns-in-Err-clause-text c = no_text c.args.len c.args.off c.args.bytes.now c.in_ok-field.field.now c.in_ok-field.ensures.field c.in-Err.ensures.cases.0
