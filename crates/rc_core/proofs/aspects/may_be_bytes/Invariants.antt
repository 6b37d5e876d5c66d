use Rattle.std.proofs.Common.{◌<◌, ℕ}
use Rattle.std.specs.Prelude.{slice_get}
use Rattle.rc_core.specs.Rows.{all_had}
use Rattle.rc_core.specs.Stops.{MayBeByte}
use Rattle.rc_core.proofs.aspects.may_be_bytes.Given as goal

abbrev pub invariant-loop-at : goal.invariant-loop-at
invariant-loop-at l = (at : ℕ) → at < l.at → MayBeByte (all_had l.row) l.row.touched.puts at (slice_get l.image.bytes at)
