use Rattle.std.proofs.Common.{cond, ap, refl, None, ◌&&◌, ◌++◌, ◌∷◌, []}
use Rattle.std.specs.FinMap.{get}
use Rattle.rc_tree.specs.Spelled.{spelled}
use Rattle.rc_tree.specs.Tree.{kind_at}
use Rattle.rc_filter.specs.Decided.{around, item_of}
use Rattle.rc_filter.specs.Scope.{decides}
use Rattle.rc_filter.proofs.Moving.{below_moved, moved_below}
use Rattle.rc_filter.proofs.Neighbours.{above-more, and-false, below_copied, copied_below, scope-more}
use Rattle.rc_filter.proofs.Purging.{below_purged, purged_below}
use Rattle.rc_filter.proofs.laws.decisions_by_neighbours.Goals as goal

pub returns-clause-root : goal.returns-clause-root
returns-clause-root c = λ job source target moment.
    (refl, ap (λ b. cond b (item_of job moment [] [] [] (around job source target moment []) (get source []) (get target [])) None) (and-false (decides job [] (kind_at source []) (kind_at target []))))

pub returns-clause-scope : goal.returns-clause-scope
returns-clause-scope c = scope-more

pub returns-clause-decided : goal.returns-clause-decided
returns-clause-decided c = λ job source target moment above name.
    let key = above ++ name ∷ [] in
    ap (λ b. cond (decides job key (kind_at source key) (kind_at target key) && b) (item_of job moment key (spelled source key) (spelled target key) (around job source target moment key) (get source key) (get target key)) None) (above-more job source target above name)

pub returns-clause-copied : goal.returns-clause-copied
returns-clause-copied c = λ job source target moment key.
    (below_copied job source target moment key, λ at. copied_below job source target moment key at.0 at.1)

pub returns-clause-purged : goal.returns-clause-purged
returns-clause-purged c = λ job source target moment key.
    (purged_below job source target moment key, below_purged job source target moment key)

pub returns-clause-moved : goal.returns-clause-moved
returns-clause-moved c = λ job source target moment key.
    (moved_below job source target moment key, below_moved job source target moment key)
