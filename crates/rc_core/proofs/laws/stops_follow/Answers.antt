use Rattle.rc_core.proofs.Runs.{stop_follows, stop_held}
use Rattle.rc_core.proofs.laws.stops_follow.Goals as goal

pub returns-clause-follows : goal.returns-clause-follows
returns-clause-follows c = stop_follows (record { inside = c.ranges_fill_a_file.ensures.inside; apart = c.ranges_fill_a_file.ensures.apart })

pub returns-clause-held : goal.returns-clause-held
returns-clause-held c = stop_held (record { inside = c.ranges_fill_a_file.ensures.inside; apart = c.ranges_fill_a_file.ensures.apart })
