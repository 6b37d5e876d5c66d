use Rattle.std.proofs.Common.{◌≡◌, ◌+◌, true, length, take, ap, sym, ◌∙◌, subst}
use Rattle.std.specs.Ordering.{is_eq}
use Rattle.std.specs.Cmp.{tied_itself}
use Rattle.std.specs.declared.cmp.Ordering.TheVariants.{Equal}
use Rattle.rc_tree.specs.Path.{key_of, key_cmp}
use Rattle.rc_tree.proofs.Keys.{key_cmp-total, key_cmp-IsAntisymmetric}
use Rattle.rc_mem.proofs.Order.{equal-from_eq}
use Rattle.rc_mem.proofs.tree.is_child.Goals as goal

pub returns-then-names-depth-clause-child : goal.returns-then-names-depth-clause-child
returns-then-names-depth-clause-child c = λ yes.
    let size = ap length c.names-depth.ensures.same in
    record {
      deeper = ap length (sym c.names.ensures.same) ∙ c.if-names-depth.true ∙ ap (λ n. n + 1) size;
      begins = key_cmp-IsAntisymmetric _ _ (subst (λ n. key_cmp (take n (key_of c.args.path.now)) (key_of c.args.dir.now) ≡ Equal) size (sym c.cmp_front.ensures ∙ equal-from_eq c.cmp_front.result (sym c.is_eq.ensures ∙ yes)));
    }

pub returns-then-names-depth-clause-other : goal.returns-then-names-depth-clause-other
returns-then-names-depth-clause-other c = λ no child.
    let size = ap length c.names-depth.ensures.same in
    let tied : c.cmp_front.result ≡ Equal = c.cmp_front.ensures ∙ ap (λ n. key_cmp (take n (key_of c.args.path.now)) (key_of c.args.dir.now)) size ∙ ap (λ k. key_cmp k (key_of c.args.dir.now)) child.begins ∙ tied_itself key_cmp-total (key_of c.args.dir.now) in
    let yes : c.is_eq.result ≡ true = c.is_eq.ensures ∙ ap is_eq tied in
    cc
