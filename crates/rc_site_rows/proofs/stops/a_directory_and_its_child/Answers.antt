use Rattle.rc_site_rows.proofs.PartLemmas.{child_never_alone, directory_alone, neither_made}
use Rattle.rc_site_rows.proofs.stops.a_directory_and_its_child.Goals as goal

pub returns : goal.returns
returns c = record { neither = neither_made; alone = directory_alone; never_alone = child_never_alone }
