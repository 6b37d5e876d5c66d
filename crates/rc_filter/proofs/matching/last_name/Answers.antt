use Rattle.std.proofs.Common.{◌≡◌, ◌-◌, suc, length, ap, sym, ◌∙◌, arith}
use Rattle.std.specs.Str.{chars}
use Rattle.rc_tree.specs.Path.{last_name}
use Rattle.rc_filter.proofs.LastNames.{last_name-at, no_names}
use Rattle.rc_filter.proofs.matching.last_name.Goals as goal

pub returns-in-empty : goal.returns-in-empty
unfolding chars
returns-in-empty c = sym (ap last_name (sym c.names.ensures.same ∙ no_names c.names.result.now c.in-empty.len_below))

pub returns-in-len1-up : goal.returns-in-len1-up
returns-in-len1-up c =
    let names = c.names.result.now in
    let long : length names ≡ suc (length names - 1) = omega (arith, c.in-len1-up.len_at_least) in
    c.text.ensures.spelling ∙ last_name-at names (length names - 1) c.name-item.result long c.name-item.is ∙ ap last_name c.names.ensures.same
