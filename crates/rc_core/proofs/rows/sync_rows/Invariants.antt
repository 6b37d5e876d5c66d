use Rattle.std.proofs.Common.{◌≡◌, ◌++◌, drop, map, take}
use Rattle.rc_core.specs.Rows.{synced}
use Rattle.rc_core.proofs.rows.sync_rows.Given as goal

abbrev pub invariant-loop-row : goal.invariant-loop-row
invariant-loop-row l = l.rows ≡ map synced (take l.row-index l.fn.rows) ++ drop l.row-index l.fn.rows
