use Rattle.std.proofs.Common.{sym, ◌∙◌}
use Rattle.rc_sitetext.proofs.FieldValues.{number_ok, number_none}
use Rattle.rc_sitetext.proofs.values.number_of.Goals as goal

pub returns-in_default-clause-value : goal.returns-in_default-clause-value
returns-in_default-clause-value c =
    number_none c.args.greatest c.args.text.now c.parse.result c.in_default.field-0 c.parse.ensures.value.0 (sym c.is_padded.ensures ∙ c.if-is_padded.false) c.in_default.is c.ranges.greatest.fits

pub returns-clause-value : goal.returns-clause-value
returns-clause-value c =
    number_ok c.args.greatest c.in-Ok.number c.args.text.now c.parse.result c.parse.ensures.value.0 (sym c.is_padded.ensures ∙ c.if-is_padded.false) c.in-Ok.is c.if-number-greatest.false
