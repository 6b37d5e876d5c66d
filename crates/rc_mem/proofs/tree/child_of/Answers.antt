use Rattle.std.proofs.Common.{◌≡◌, List, ℕ, ◌<◌, ◌-◌, ◌++◌, ◌∷◌, [], length, get_or, ap, ◌∙◌, subst, arith}
use Rattle.rc_mem.proofs.Trees.{last_name-get_or}
use Rattle.rc_mem.proofs.tree.child_of.Goals as goal

pub returns-in-Ok : goal.returns-in-Ok
returns-in-Ok c =
    let path = c.args.path.now in
    let name = c.index-names-names.result in
    let item : name ≡ get_or path (length path - 1) name = subst (λ (names : List (List ℕ)). name ≡ get_or names (length names - 1) name) c.names-names.ensures.same c.index-names-names.is in
    let some : 0 < length path = c.requires.some in
    c.in-Ok.ensures.joined.0 ∙ ap (λ (last : List ℕ). c.args.dir.now ++ last ∷ []) (item ∙ last_name-get_or path (length path - 1) name (omega arith))
