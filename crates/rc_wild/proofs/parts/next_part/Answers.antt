-- A text of no characters has no parts.
use Rattle.std.proofs.Common.{◌≡◌, length, ap, ◌∙◌, arith}
use Rattle.std.proofs.lemmas.Bool.Decides.{nat_tests}
use Rattle.rc_wild.specs.PathPattern.{parts_of}
use Rattle.rc_wild.proofs.Chars.{no_chars}
use Rattle.rc_wild.proofs.parts.next_part.Goals as goal

pub returns : goal.returns
returns c =
    let none : length c.parts.left.now ≡ 0 = grind (arith, nat_tests) in
    c.parts.invariant.1 ∙ ap parts_of (no_chars c.parts.left.now none)
