-- `*.*` is read as `*`.
use Rattle.std.proofs.Common.{◌≡◌, refl, sym, ap, ◌∙◌}
use Rattle.std.specs.Prelude.{codes}
use Rattle.std.specs.Str.{bytes_eq, chars}
use Rattle.std.proofs.lemmas.Bool.{cond-true}
use Rattle.rc_wild.specs.Pattern.{matches_name, matches_text, read_as}
use Rattle.rc_wild.proofs.walk.matches_name.Goals as goal

star : chars (codes "*") ≡ codes "*"
unfolding chars
star = refl

pub returns-then-is_star_dot_star : goal.returns-then-is_star_dot_star
unfolding matches_name
returns-then-is_star_dot_star c =
    let read : read_as (chars c.args.pattern.now) ≡ codes "*" =
    cond-true (bytes_eq (chars c.args.pattern.now) (codes "*.*")) (codes "*") (chars c.args.pattern.now) (sym c.is_star_dot_star.ensures ∙ c.if-is_star_dot_star.true) in
    c.matches_text.ensures ∙ ap (λ p. matches_text p (chars c.args.name.now)) (star ∙ sym read)
