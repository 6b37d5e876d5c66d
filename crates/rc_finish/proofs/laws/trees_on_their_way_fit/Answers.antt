use Rattle.rc_finish.proofs.FitLemmas.{making_way, still_whole, way_fits, whole_purges, whole_removals}
use Rattle.rc_finish.proofs.laws.trees_on_their_way_fit.Goals as goal

pub returns : goal.returns
returns c = record {
  fit = way_fits;
  purging = whole_purges;
  freeing = whole_removals;
  made = making_way;
  freed = still_whole;
}
