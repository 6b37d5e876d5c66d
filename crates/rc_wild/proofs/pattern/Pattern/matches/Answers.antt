use Rattle.std.proofs.Common.{◌↔◌, IsTrue, chars, sym, ap, ◌∙◌, subst}
use Rattle.rc_wild.specs.Pattern.{matches_name, MatchesName}
use Rattle.rc_wild.proofs.Cases.{name_cases}
use Rattle.rc_wild.proofs.pattern.Pattern.matches.Goals as goal

pub returns-clause-case_by_case : goal.returns-clause-case_by_case
returns-clause-case_by_case c =
    let test = c.matches_name.ensures ∙ ap (λ p. matches_name p (chars c.args.name.now)) (ap chars c.as_str.ensures.value ∙ c.self.view_is) in
    subst (λ r. IsTrue r ↔ MatchesName c.args.self.now (chars c.args.name.now)) (sym test) (name_cases c.args.self.now (chars c.args.name.now))
