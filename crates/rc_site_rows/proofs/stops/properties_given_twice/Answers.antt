use Rattle.rc_site_rows.proofs.StopLemmas.{props_mixed, props_none_else}
use Rattle.rc_site_rows.proofs.stops.properties_given_twice.Goals as goal

pub returns : goal.returns
returns c = record { mixed = props_mixed; none_else = props_none_else }
