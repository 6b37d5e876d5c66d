-- What a stop leaves of the target behind its sync.
use Rattle.std.proofs.Common.{◌≡◌, List, [], ◌∷◌, ◌++◌, sym, subst}
use Rattle.rc_tree.specs.Tree.{IsTree}
use Rattle.rc_volume.specs.declared.site.Side.TheVariants.{Target}
use Rattle.rc_volume.specs.Images.{IsOnlyTree}
use Rattle.rc_volume.specs.Log.{Event, synced}
use Rattle.rc_volume.specs.Site.{Seen, Told}
use Rattle.rc_volume.proofs.ImageLemmas.{only_tree}

-- what reads, and nothing else
pub durable_by : (old new : Seen) → IsTree old.told.target → new.told ≡ old.told → new.log ≡ old.log ++ synced Target old.told.target ∷ [] → IsOnlyTree Target new.log new.told.target
durable_by old new tree told log =
    subst (λ (t : Told). IsOnlyTree Target new.log t.target) (sym told)
    (subst (λ (events : List Event). IsOnlyTree Target events old.told.target) (sym log) (only_tree Target old.log old.told.target tree))
