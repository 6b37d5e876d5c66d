use Rattle.rc_wild.specs.PathPattern.{asked_parts, matches_path, MatchesPath}
use Rattle.rc_wild.proofs.Cases.{name_cases, parts_cases, parts_test}
use Rattle.rc_wild.proofs.laws.matching_by_cases.Goals as goal

pub returns-clause-names : goal.returns-clause-names
returns-clause-names c = name_cases

pub returns-clause-paths : goal.returns-clause-paths
unfolding matches_path MatchesPath
returns-clause-paths c = λ source target value path. (parts_cases (asked_parts source target value) path, parts_test)
