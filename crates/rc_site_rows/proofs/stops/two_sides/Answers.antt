use Rattle.rc_site_rows.proofs.PartLemmas.{source_stands, target_unbegun}
use Rattle.rc_site_rows.proofs.stops.two_sides.Goals as goal

pub returns : goal.returns
returns c = record { source = source_stands; target = target_unbegun }
