use Rattle.rc_site_rows.proofs.StopLemmas.{half_absent, half_empty, half_no_longer, half_other}
use Rattle.rc_site_rows.proofs.stops.a_file_half_made.Goals as goal

pub returns : goal.returns
returns c = record { absent = half_absent; empty = half_empty; other_bytes = half_other; no_longer = half_no_longer }
