use Rattle.std.proofs.Common.{chars, refl, sym, ap}
use Rattle.std.specs.Str.{is_utf8}
use Rattle.std.proofs.lemmas.Str.{is_utf8-from_IsUtf8}
use Rattle.rc_jobtext.proofs.Parts.{is_no_text, is_text}
use Rattle.rc_jobtext.proofs.decoding.narrow_text.Goals as goal

pub returns-in-Ok : goal.returns-in-Ok
returns-in-Ok c =
    is_text (is_utf8 c.args.bytes.now) (chars c.args.bytes.now) (chars c.in-Ok.text.now)
    (is_utf8-from_IsUtf8 c.args.bytes.now c.in-Ok.ensures.cases.1) (ap chars (sym c.in-Ok.ensures.cases.0))

pub returns-in-Err : goal.returns-in-Err
returns-in-Err c =
    is_no_text c.args.bytes.now (is_utf8 c.args.bytes.now) (chars c.args.bytes.now) refl c.in-Err.ensures.cases.0
