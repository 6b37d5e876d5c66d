use Rattle.std.proofs.Common.{ap, sym, ◌∙◌}
use Rattle.rc_tree.specs.Path.{last_name}
use Rattle.rc_wild.specs.Pattern.{matches_name}
use Rattle.rc_filter.proofs.LastNames.{last_name-key}
use Rattle.rc_filter.proofs.matching.matches_last.Goals as goal

pub returns : goal.returns
returns c =
    let pattern = c.args.pattern.now in
    let path = c.args.path.now in
    c.matches.ensures.test ∙ ap (matches_name pattern) c.last_name.ensures
    ∙ sym (c.matching_by_folding.ensures.names pattern (last_name path)) ∙ ap (matches_name pattern) (sym (last_name-key path))
