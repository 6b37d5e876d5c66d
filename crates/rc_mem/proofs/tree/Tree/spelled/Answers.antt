use Rattle.std.proofs.Common.{◌≡◌, refl, Some, None, [], ap, sym, subst, ◌∙◌, arith}
use Rattle.std.specs.FinMap.{get}
use Rattle.rc_tree.specs.Path.{key_of, parent_of}
use Rattle.rc_tree.specs.Tree.{IsDirectory}
use Rattle.rc_mem.specs.Nodes.{IsSpelledIn}
use Rattle.rc_mem.specs.Held.{IsPlaced}
use Rattle.std.proofs.lemmas.Result.{IfOk-weaker}
use Rattle.rc_mem.proofs.Steps.{some_here}
use Rattle.rc_mem.proofs.Placed.{placed-under, length-parent, same-length, root-if, root-spelled}
use Rattle.rc_mem.proofs.tree.Tree.spelled.Goals as goal

pub child_of-requires : goal.child_of-requires
child_of-requires c =
    let above : parent_of c.args.path.now ≡ Some c.in-Some.parent = sym c.in_ok-parent.ensures ∙ c.in-Some.is in
    let long = length-parent c.args.path.now c.in-Some.parent above in
    let same = same-length c.in-Some-at.node.now.path c.in-Some.parent (c.in-Some-at.ensures.placed ∙ c.in_ok-key.ensures) in
    record { some = omega arith; shallow = omega (arith, c.keeps_limits.ensures.depth) }

pub returns-in-Some-at : goal.returns-in-Some-at
returns-in-Some-at c =
    let self = c.args.self.now in
    let path = c.args.path.now in
    let parent = c.in-Some.parent in
    let above : parent_of path ≡ Some parent = sym c.in_ok-parent.ensures ∙ c.in-Some.is in
    IfOk-weaker c.child_of.result _ (IsPlaced self path) (λ own is. placed-under self path parent c.in-Some-at.node.now.path own above is (c.in-Some-at.ensures.placed ∙ c.in_ok-key.ensures)
    (some_here (parent_of path) parent (λ p. IsDirectory self (key_of p)) above c.requires) c.in-Some-at.ensures.spelled c.keeps_limits.ensures.depth c.keeps_limits.ensures.named) c.child_of.ensures

pub returns : goal.returns
returns c =
    let self = c.args.self.now in
    let path = c.args.path.now in
    let parent = c.in-Some.parent in
    let above : parent_of path ≡ Some parent = sym c.in_ok-parent.ensures ∙ c.in-Some.is in
    let directory = some_here (parent_of path) parent (λ p. IsDirectory self (key_of p)) above c.requires in
    let none : get self (key_of parent) ≡ None = ap (get self) (sym c.in_ok-key.ensures) ∙ sym c.in-None.ensures.found in
    let root : parent ≡ [] = root-if self parent directory none in
    IfOk-weaker c.child_of-in-None.result _ (IsPlaced self path) (λ own is. placed-under self path parent parent own above is refl directory
    (subst (IsSpelledIn self) (sym root) (root-spelled self)) c.keeps_limits.ensures.depth c.keeps_limits.ensures.named) c.child_of-in-None.ensures
