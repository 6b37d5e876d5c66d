-- The parts that were read are those of the text, up to the first one with a fault.
use Rattle.std.proofs.Common.{◌≡◌, ◌<◌, length, chars, map, sym, ap, ◌∙◌, refl, subst, inl, inr, ⊎_elim, arith, rules, lit<}
use Rattle.std.specs.Prelude.{None, Some}
use Rattle.std.proofs.lemmas.Bool.Decides.{nat_tests}
use Rattle.std.proofs.lemmas.Iterator.Consumers.{YieldsList-so_far, YieldsList-turn, YieldsList-end}
use Rattle.std.proofs.lemmas.Iterator.Splits.{YieldsList-from_str_split}
use Rattle.std.proofs.lemmas.Result.{err_from_is_err_and}
use Rattle.rc_tree.specs.Path.{names_in, path_fault, fault_at}
use Rattle.rc_tree.specs.Name.{name_fault}
use Rattle.rc_tree.proofs.Parts.{names_in-empty, names_in-parts, path_fault-names, path_fault-turn}
use Rattle.rc_tree.proofs.path.Path.read.Goals as goal

pub returns-in_err-name-clause-refused : goal.returns-in_err-name-clause-refused
returns-in_err-name-clause-refused c =
    let p = err_from_is_err_and c.from_residual.result c.from_residual.ensures.1 in
    let some : 0 < length c.args.text.now = grind (arith, nat_tests) in
    let count : c.len.result ≡ length c.loop-part.names.items = search rules in
    let chain = YieldsList-from_str_split 92 c.args.text.now (lit< tt) (cc) (cc) (cc) in
    let front = YieldsList-so_far chain c.loop-part.yielded _ c.loop-part.yielded_by in
    let turn = YieldsList-turn chain c.loop-part.yielded _ c.loop-part.yielded_by _ _ c.in-Some.part c.in-Some.is c.next.ensures.steps in
    rw (p.1, p.2, names_in-parts c.args.text.now c.utf8.text some)
    (⊎_elim inl (λ h. inr (path_fault-turn _ (map (λ x. x.now) c.loop-part.yielded) c.loop-part.names.items (length c.loop-part.yielded) c.in-Some.part.now _ c.loop-part.invariant.spelled front turn.0 turn.1 c.loop-part.invariant.named (subst (λ k. fault_at k (name_fault (chars c.in-Some.part.now)) None ≡ Some c.in_err-name.field-0.0) count h))) c.in_err-name.ensures.refused)

pub returns-then-is_empty-clause-named : goal.returns-then-is_empty-clause-named
returns-then-is_empty-clause-named c =
    let none : length c.args.text.now ≡ 0 = grind (arith, nat_tests) in
    rw (names_in-empty c.args.text.now c.utf8.text none) (c.new-names.ensures.items, refl)

pub returns-clause-named : goal.returns-clause-named
returns-clause-named c =
    let some : 0 < length c.args.text.now = grind (arith, nat_tests) in
    let chain = YieldsList-from_str_split 92 c.args.text.now (lit< tt) (cc) (cc) (cc) in
    let end = YieldsList-end chain c.loop-part.yielded _ c.loop-part.yielded_by _ _ c.in-None.is c.next.ensures.steps in
    let same : c.loop-part.names.items ≡ names_in (chars c.args.text.now) = c.loop-part.invariant.spelled ∙ ap (map chars) end.0 ∙ sym (names_in-parts c.args.text.now c.utf8.text some) in
    (same, subst (λ ns. path_fault ns ≡ None) same (path_fault-names c.loop-part.names.items c.loop-part.invariant.named))
