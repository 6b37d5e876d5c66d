use Rattle.rc_site_rows.proofs.StopLemmas.{length_no_shorter, length_other}
use Rattle.rc_site_rows.proofs.stops.a_length_down_and_up.Goals as goal

pub returns : goal.returns
returns c = record { other_bytes = length_other; no_shorter = length_no_shorter }
