use Rattle.std.proofs.Common.{ap, sym, subst, ◌∙◌}
use Rattle.std.specs.Map.{keys_of}
use Rattle.std.specs.List.Sorted.{IsStrictlySortedBy}
use Rattle.rc_tree.specs.Path.{key_cmp}
use Rattle.rc_stop.specs.Grown.{grown}
use Rattle.rc_stop.proofs.Growing.{NoneAt, at_each, none-empty, none-next, no-entries, picked-grown}
use Rattle.rc_stop.proofs.image.grow_all.Goals as goal

pub keys-init : goal.keys-init
keys-init c =
    let kept = c.args.kept.now in
    let reads = c.args.reads.now in
    record {
      grows = ap (grown (at_each kept reads c.args.keys.entries)) c.new-image.ensures;
      none = subst (λ t. NoneAt t (at_each kept reads c.args.keys.entries)) (sym c.new-image.ensures) (none-empty kept reads c.args.keys.entries);
      ordered = c.requires.ordered;
    }

pub keys-preserved : goal.keys-preserved
keys-preserved c =
    let kept = c.args.kept.now in
    let reads = c.args.reads.now in
    let removal = c.in-Some.ensures.removal in
    let rest = c.pop_first.new.self.entries in
    record {
      grows = ap (grown (at_each kept reads rest)) c.in_ok-grow_from.ensures ∙ ap (λ es. grown (at_each kept reads es) c.keys.image) (sym removal) ∙ c.keys.invariant.grows;
      none = subst (λ t. NoneAt t (at_each kept reads rest)) (sym c.in_ok-grow_from.ensures)
          (none-next kept reads c.in-Some.key c.in-Some.odd rest c.keys.image (subst (λ es. IsStrictlySortedBy key_cmp (keys_of es)) removal c.keys.invariant.ordered) (subst (λ es. NoneAt c.keys.image (at_each kept reads es)) removal c.keys.invariant.none));
      ordered = c.in-Some.ensures.ordered;
    }

pub returns : goal.returns
returns c =
    let kept = c.args.kept.now in
    let reads = c.args.reads.now in
    let none = no-entries c.keys.keys.entries c.in_default.ensures.variant.1 in
    picked-grown kept reads c.args.keys.entries c.keys.image c.requires.ordered c.requires.all c.keeps_shape.ensures
    (ap (λ es. grown (at_each kept reads es) c.keys.image) (sym none) ∙ c.keys.invariant.grows)
