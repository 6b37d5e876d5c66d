use Rattle.rc_site_rows.proofs.StopLemmas.{put_other, put_stands, put_stays}
use Rattle.rc_site_rows.proofs.stops.a_put_over_a_synced_file.Goals as goal

pub returns : goal.returns
returns c = record { other_bytes = put_other; stays = put_stays; stands = put_stands }
