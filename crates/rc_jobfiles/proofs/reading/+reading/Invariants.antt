use Rattle.std.proofs.Common.{◌≡◌, ◌⊎◌, ◌+◌, ◌*◌, true, length}
use Rattle.rc_jobfiles.specs.Resolving.{file_gathered, names_none}
use Rattle.rc_jobfiles.proofs.Gathering.{Done}
use Rattle.rc_jobfiles.proofs.reading.+reading.Given as goal

abbrev pub decreases-read_file : goal.decreases-read_file
decreases-read_file g l = 4 * l.room + 1

abbrev pub decreases-read_list : goal.decreases-read_list
decreases-read_list g l = 4 * l.room + 3

abbrev pub decreases-read_opened : goal.decreases-read_opened
decreases-read_opened g l = 4 * l.room

abbrev pub decreases-read_part : goal.decreases-read_part
decreases-read_part g l = 4 * l.room + 2

abbrev pub invariant-read_list-settings : goal.invariant-read_list-settings
invariant-read_list-settings g l = record {
  done : (g.J.JobStore.tells ≡ true) ⊎ (names_none l.fn.settings.items ≡ true) → Done (file_gathered l.room (g.J.JobStore.files l.fn.store) l.fn.progress.chain.items l.file) l.fn.progress l.progress l.fn.settings.items l.rest;
  none : names_none l.fn.settings.items ≡ true → (l.store ≡ l.fn.store) × (names_none l.rest ≡ true);
  same : g.J.JobStore.tells ≡ true → g.J.JobStore.files l.store ≡ g.J.JobStore.files l.fn.store;
  cause : g.J.JobStore.faults l.store ≡ g.J.JobStore.faults l.fn.store;
}

abbrev pub decreases-read_list-settings : goal.decreases-read_list-settings
decreases-read_list-settings g l = length l.rest
