use Rattle.std.proofs.Common.{◌≡◌, ap, List, ℕ, ◌<◌, ◌-◌, length, get_or, ◌∙◌, subst, arith}
use Rattle.rc_tree.specs.Path.{last_name}
use Rattle.rc_mem.proofs.Trees.{last_name-get_or}
use Rattle.rc_mem.proofs.node.TreeNode.shown.Goals as goal

pub returns : goal.returns
returns c =
    let path = c.args.self.now.path in
    let item : c.index-names-names.result ≡ get_or path (length path - 1) c.index-names-names.result = subst (λ (names : List (List ℕ)). c.index-names-names.result ≡ get_or names (length names - 1) c.index-names-names.result) c.names-names.ensures.same c.index-names-names.is in
    let some : 0 < length path = c.requires in
    let last = item ∙ last_name-get_or path (length path - 1) c.index-names-names.result (omega arith) in
    let name : c.in_ok-copy.field-0 ≡ last_name path = c.in_ok-copy.ensures ∙ last in
    λ i. record { name = name i; kind = c.args.self.now.kind; size = (ap length c.as_slice.ensures) i; props = c.in_ok-copy-2.ensures i }
