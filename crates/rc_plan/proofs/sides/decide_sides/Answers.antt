-- Pairs are those of both trees.
use Rattle.std.proofs.Common.{ap, ◌∙◌, [], Option, None}
use Rattle.rc_plan.specs.declared.entries.Found.{Found}
use Rattle.rc_plan.specs.Found.{found_at, seen_at}
use Rattle.rc_plan.specs.Pair.{pair_of}
use Rattle.rc_plan.proofs.sides.decide_sides.Goals as goal

pub returns-in-Ok-decide_pairs-clause-root : goal.returns-in-Ok-decide_pairs-clause-root
returns-in-Ok-decide_pairs-clause-root c =
    c.in-Ok-decide_pairs.ensures.root
    (c.in-Ok.ensures.pairs []
    ∙ ap (λ (x : Option Found). pair_of x (found_at c.args.target.items [])) c.requires.our_root
    ∙ ap (λ (y : Option Found). pair_of None y) c.requires.their_root)

pub returns-in-Ok-decide_pairs-clause-decided : goal.returns-in-Ok-decide_pairs-clause-decided
returns-in-Ok-decide_pairs-clause-decided c = λ ours theirs is also mine yours.
    c.in-Ok-decide_pairs.ensures.decided ours theirs is also
    (λ q.
    c.in-Ok.ensures.pairs q
    ∙ ap (λ (x : Option Found). pair_of x (found_at c.args.target.items q)) (mine q)
    ∙ ap (λ (y : Option Found). pair_of (seen_at ours q) y) (yours q))
