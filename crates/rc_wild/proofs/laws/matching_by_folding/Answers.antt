use Rattle.rc_wild.specs.PathPattern.{asked_parts, matches_path}
use Rattle.rc_wild.proofs.Folding.{name-folded, parts-folded}
use Rattle.rc_wild.proofs.laws.matching_by_folding.Goals as goal

pub returns-clause-names : goal.returns-clause-names
returns-clause-names c = name-folded

pub returns-clause-paths : goal.returns-clause-paths
unfolding matches_path
returns-clause-paths c = λ source target value path. parts-folded (asked_parts source target value) path
