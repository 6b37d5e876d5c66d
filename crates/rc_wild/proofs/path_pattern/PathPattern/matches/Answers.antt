use Rattle.std.proofs.Common.{◌↔◌, IsTrue, List, ℕ, chars, sym, ap, ◌∙◌, subst}
use Rattle.rc_wild.specs.PathPattern.{asked_parts, matches_parts, matches_path, MatchesPath}
use Rattle.rc_wild.proofs.Cases.{parts_cases, parts_test}
use Rattle.rc_wild.proofs.path_pattern.PathPattern.matches.Goals as goal

pub returns-clause-case_by_case : goal.returns-clause-case_by_case
unfolding matches_path MatchesPath
returns-clause-case_by_case c =
    let source = chars c.args.source.now in
    let target = chars c.args.target.now in
    let parts = c.asked_parts.ensures ∙ ap (asked_parts source target) (ap chars c.as_str-value.ensures.value ∙ c.self.view_is) in
    let test =
    c.matches_parts.ensures
    ∙ ap (λ (ps : List (List ℕ)). matches_parts ps c.names.result.now) parts
    ∙ ap (matches_parts (asked_parts source target c.args.self.now)) c.names.ensures.same in
    subst (λ r. IsTrue r ↔ MatchesPath source target c.args.self.now c.args.path.now) (sym test)
    (parts_cases (asked_parts source target c.args.self.now) c.args.path.now, parts_test)
