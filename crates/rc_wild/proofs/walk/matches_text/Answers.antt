-- Each turn keeps what the walk has of the whole match.
use Rattle.std.proofs.Common.{rules, sym, chars}
use Rattle.rc_wild.proofs.Turns.{at_star, at_same, too_short}
use Rattle.rc_wild.proofs.walk.matches_text.Goals as goal

pub returns-in-TooShort : goal.returns-in-TooShort
returns-in-TooShort c = sym (too_short (chars c.args.pattern.now) (chars c.args.text.now) (chars c.turns.ahead.now) (chars c.turns.left.now) c.turns.back c.in-TooShort.ensures.0 c.in-TooShort.ensures.1 c.turns.invariant.2)

pub turns-preserved-in-Star : goal.turns-preserved-in-Star
turns-preserved-in-Star c =
    (search rules, search rules, at_star (chars c.args.pattern.now) (chars c.args.text.now) (chars c.turns.ahead.now) (chars c.turns.left.now) (chars c.in-Star.after.now) c.turns.back c.in-Star.ensures c.turns.invariant.2)

pub turns-preserved-in-Same : goal.turns-preserved-in-Same
turns-preserved-in-Same c =
    let seen = c.in-Same.ensures in
    (search rules, search rules, at_same (chars c.args.pattern.now) (chars c.args.text.now) (chars c.turns.ahead.now) (chars c.turns.left.now) (chars c.in-Same.after.now) (chars c.in-Same.rest.now) c.turns.back seen.0 seen.1 seen.2 seen.3 seen.4 seen.5 c.turns.invariant.2)
