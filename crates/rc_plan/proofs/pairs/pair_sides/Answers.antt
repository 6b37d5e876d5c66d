-- Each round takes what stands at the least key of both sides.
use Rattle.std.proofs.Common.{◌≡◌, ◌++◌, ◌∷◌, [], cond, sym, ap, subst, ◌∙◌, List}
use Rattle.rc_plan.specs.declared.pairs.Pair.{Pair}
use Rattle.rc_plan.proofs.Pairings.{Pairing, Pairing-end, Pairing-more, Pairing-start, fewer}
use Rattle.rc_plan.proofs.pairs.pair_sides.Goals as goal

pub keys-init : goal.keys-init
keys-init c = Pairing-start c.args.source.items c.args.target.items _ _ _ c.new-pairs.ensures.items c.from-ours.ensures.0 c.from-theirs.ensures.0

pub keys-smaller : goal.keys-smaller
keys-smaller c = fewer c.keys.ours.items c.keys.theirs.items _ _ c.in-Some.pair c.in-Some.ensures.taken c.take_least.ensures.ours c.take_least.ensures.theirs

pub keys-preserved : goal.keys-preserved
keys-preserved c =
    let pairs = c.keys.pairs.items in
    let pair = c.in-Some.pair in
    let pushed : c.push.new.self.items ≡ pairs ++ pair ∷ [] = c.push.ensures.items ∙ ap (λ b. cond b (pairs ++ pair ∷ []) pairs) c.if-is_err.ensures.negation in
    subst (λ (all : List Pair). Pairing c.args.source.items c.args.target.items c.take_least.new.ours.items c.take_least.new.theirs.items all) (sym pushed)
    (Pairing-more c.args.source.items c.args.target.items c.keys.ours.items c.keys.theirs.items _ _ pairs pair c.keys.invariant c.in-Some.ensures.taken c.take_least.ensures.ours c.take_least.ensures.theirs)

pub returns-in-None-clause-rising : goal.returns-in-None-clause-rising
returns-in-None-clause-rising c =
    (Pairing-end c.args.source.items c.args.target.items c.keys.ours.items c.keys.theirs.items c.keys.pairs.items c.keys.invariant c.in-None.ensures.taken c.requires.ours c.requires.theirs).rising

pub returns-in-None-clause-pairs : goal.returns-in-None-clause-pairs
returns-in-None-clause-pairs c =
    (Pairing-end c.args.source.items c.args.target.items c.keys.ours.items c.keys.theirs.items c.keys.pairs.items c.keys.invariant c.in-None.ensures.taken c.requires.ours c.requires.theirs).each
