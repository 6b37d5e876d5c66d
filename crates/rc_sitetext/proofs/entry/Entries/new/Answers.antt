use Rattle.std.proofs.Common.{◌∙◌, ap}
use Rattle.rc_tree.specs.Path.{key_cmp}
use Rattle.rc_tree.specs.Tree.{Node}
use Rattle.rc_sitetext.specs.Reading.{last_key}
use Rattle.rc_sitetext.proofs.FieldValues.{last_key_empty}
use Rattle.rc_sitetext.proofs.entry.Entries.new.Goals as goal

pub invariant_of-result : goal.invariant_of-result
invariant_of-result c = ap last_key c.new.ensures ∙ last_key_empty Node key_cmp
