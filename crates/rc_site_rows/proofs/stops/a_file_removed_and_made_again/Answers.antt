use Rattle.rc_site_rows.proofs.StopLemmas.{again_absent, again_as_it_was, again_no_longer, again_other}
use Rattle.rc_site_rows.proofs.stops.a_file_removed_and_made_again.Goals as goal

pub returns : goal.returns
returns c = record { absent = again_absent; as_it_was = again_as_it_was; other_bytes = again_other; no_longer = again_no_longer }
