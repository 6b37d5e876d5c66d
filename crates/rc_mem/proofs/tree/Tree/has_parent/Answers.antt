use Rattle.std.proofs.Common.{◌≡◌, Bool, Some, ap, sym, subst, ◌∙◌}
use Rattle.std.specs.Prelude.{IfOk, option_map}
use Rattle.rc_tree.specs.Path.{key_of, parent_of}
use Rattle.rc_mem.specs.Directories.{dir_above}
use Rattle.rc_mem.proofs.Parents.{parent-key}
use Rattle.rc_mem.proofs.tree.Tree.has_parent.Goals as goal

pub returns-in-Some-clause-computed : goal.returns-in-Some-clause-computed
returns-in-Some-clause-computed c =
    let above : parent_of c.args.path.now ≡ Some c.in-Some.parent = sym c.in_ok-parent.ensures ∙ c.in-Some.is in
    subst (λ (b : Bool). IfOk c.is_directory.result (λ has. has ≡ b)) (sym (ap (dir_above c.args.self.now) (parent-key c.args.path.now ∙ ap (option_map key_of) above))) c.is_directory.ensures
