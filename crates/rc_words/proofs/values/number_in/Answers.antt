use Rattle.std.proofs.Common.{chars}
use Rattle.rc_words.proofs.Numbers.{too_large}
use Rattle.rc_words.proofs.values.number_in.Goals as goal

pub returns-in-None : goal.returns-in-None
returns-in-None c =
    too_large _ c.digits.number c.in-Some.c (chars c.digits.rest.now) (chars c.in-Some.later.now) (chars c.args.text.now)
    c.in-Some.ensures c.digits.invariant.1 c.in-None.ensures
