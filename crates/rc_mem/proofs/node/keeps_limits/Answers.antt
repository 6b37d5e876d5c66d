use Rattle.std.proofs.Common.{◌≡◌, ◌-◌, length, Some, ap, ◌∙◌, subst, arith}
use Rattle.std.specs.List.{slice_get}
use Rattle.rc_tree.specs.Name.{name_fault}
use Rattle.rc_tree.specs.Path.{last_name}
use Rattle.rc_mem.proofs.Trees.{last_name-slice_get}
use Rattle.rc_mem.proofs.node.keeps_limits.Goals as goal

pub returns-in-Some-clause-named : goal.returns-in-Some-clause-named
returns-in-Some-clause-named c = λ some.
    let path = c.args.path.now in
    let last : Some c.in-Some.name.now ≡ slice_get path (length path - 1) = subst (λ names. Some c.in-Some.name.now ≡ slice_get names (length names - 1)) c.names-names.ensures.same c.in-Some.ensures.value in
    let same : Some c.in-Some.name.now ≡ Some (last_name path) = last ∙ last_name-slice_get path (length path - 1) (omega arith) in
    let name : last_name path ≡ c.in-Some.name.now = cc in
    ap name_fault name ∙ c.text.ensures.is_name
