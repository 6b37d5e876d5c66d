use Rattle.std.proofs.Common.{◌≡◌, ◌≤◌, ◌-◌, ◌∷◌, true, length, take}
use Rattle.rc_volume.specs.Faults.{quiet}
use Rattle.rc_record.specs.Moments.{EachSince, Grows}
use Rattle.rc_record.specs.Writing.{BeginsClosed, ChangesRecord, ReadsLeft}
use Rattle.rc_record.proofs.durable.write_pieces.Given as goal

abbrev pub invariant-pieces : goal.invariant-pieces
invariant-pieces g l = record {
  within : l.done ≤ length l.bytes;
  told : g.S.Site.tells ≡ true → (g.S.Site.view l.site).told.notes ≡ 0 ∷ take l.done l.bytes;
  frame : ChangesRecord g.S.Site.tells quiet (g.S.Site.view l.initial.site) (g.S.Site.view l.site);
  log : g.S.Site.tells ≡ true → Grows (g.S.Site.view l.initial.site).log (g.S.Site.view l.site).log;
  images : g.S.Site.tells ≡ true → EachSince (g.S.Site.view l.site).log (length (g.S.Site.view l.initial.site).log) BeginsClosed;
  left : g.S.Site.tells ≡ true → ReadsLeft (g.S.Site.view l.site);
}

abbrev pub decreases-pieces : goal.decreases-pieces
decreases-pieces g l = length l.bytes - l.done
