-- An empty pattern matches an empty text alone.
use Rattle.std.proofs.Common.{◌≡◌, ◌<◌, length, chars, sym, ap, ◌∙◌, arith}
use Rattle.std.proofs.lemmas.Bool.Decides.{nat_tests}
use Rattle.rc_wild.specs.Pattern.{matches_text}
use Rattle.rc_wild.proofs.Chars.{empty_list}
use Rattle.rc_wild.proofs.walk.look.Goals as goal

pub returns-in-None : goal.returns-in-None
returns-in-None c =
    let none : length (chars c.args.text.now) ≡ 0 = grind (arith, nat_tests) in
    (c.in-None.ensures, empty_list (chars c.args.text.now) none)

pub returns-in-None-2 : goal.returns-in-None-2
returns-in-None-2 c =
    let some : 0 < length (chars c.args.text.now) = grind (arith, nat_tests) in
    (some, ap (λ p. matches_text p (chars c.args.text.now)) c.in-None-2.ensures ∙ sym c.is_empty.ensures ∙ c.if-is_empty.false)
