use Rattle.std.proofs.Common.{◌∙◌, ap, List, ℕ}
use Rattle.rc_tree.specs.Path.{name_cmp}
use Rattle.rc_sitetext.specs.Reading.{last_key}
use Rattle.rc_sitetext.proofs.FieldValues.{last_key_empty}
use Rattle.rc_sitetext.proofs.jobs.JobFiles.new.Goals as goal

pub invariant_of-result : goal.invariant_of-result
invariant_of-result c = ap last_key c.new.ensures ∙ last_key_empty (List ℕ) name_cmp
