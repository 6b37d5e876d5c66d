use Rattle.rc_mem.specs.MemSite.{seen_by}
use Rattle.rc_record.specs.Writing.{IsOpened}
use Rattle.rc_record_rows.proofs.writes.marks_in_turn.Given as goal

abbrev pub invariant-marks : goal.invariant-marks
invariant-marks l = IsOpened l.plan (seen_by l.site)
