use Rattle.std.proofs.Common.{◌≡◌, true}
use Rattle.rc_record.specs.Writing.{IsOpened}
use Rattle.rc_record_rows.proofs.writes.mark_all.Given as goal

abbrev pub invariant-marks : goal.invariant-marks
invariant-marks g l = g.S.Site.tells ≡ true → IsOpened l.plan (g.S.Site.view l.site)
