use Rattle.rc_site_rows.proofs.PartLemmas.{failed_sync_stands}
use Rattle.rc_site_rows.proofs.stops.a_failed_sync.Goals as goal

pub returns : goal.returns
returns c = failed_sync_stands
