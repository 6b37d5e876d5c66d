use Rattle.std.proofs.Common.{sym, ◌∙◌}
use Rattle.rc_drillwords.proofs.Numbers.{number_large, number_none, number_ok, number_other}
use Rattle.rc_drillwords.proofs.values.number_of.Goals as goal

pub returns-then-not-are_digits-clause-value : goal.returns-then-not-are_digits-clause-value
returns-then-not-are_digits-clause-value c = sym (number_other c.args.most c.args.text.now (sym c.are_digits.ensures ∙ c.if-not-are_digits.true))

pub returns-in_default-clause-value : goal.returns-in_default-clause-value
returns-in_default-clause-value c =
    sym (number_none c.args.most c.args.text.now c.parse.result c.in_default.field-0 c.parse.ensures.value.0 (sym c.are_digits.ensures ∙ c.if-not-are_digits.false) c.in_default.is c.ranges.most.fits)

pub returns-then-number-most-clause-value : goal.returns-then-number-most-clause-value
returns-then-number-most-clause-value c =
    sym (number_large c.args.most c.in-Ok.number c.args.text.now c.parse.result c.parse.ensures.value.0 (sym c.are_digits.ensures ∙ c.if-not-are_digits.false) c.in-Ok.is c.if-number-most.true)

pub returns-clause-value : goal.returns-clause-value
returns-clause-value c =
    sym (number_ok c.args.most c.in-Ok.number c.args.text.now c.parse.result c.parse.ensures.value.0 (sym c.are_digits.ensures ∙ c.if-not-are_digits.false) c.in-Ok.is c.if-number-most.false)
