-- Each term of the sum is a digit.
use Rattle.std.proofs.Common.{arith}
use Rattle.rc_tree.proofs.Digits.{attribute_bits-digits}
use Rattle.rc_tree.proofs.attr.Attr.bits.Goals as goal

pub returns-clause-value : goal.returns-clause-value
returns-clause-value c = omega (arith, attribute_bits-digits c.args.self)
