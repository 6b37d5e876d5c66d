-- The pauses of both sides.
use Rattle.std.proofs.Common.{refl}
use Rattle.rc_volume.proofs.WaitLemmas.{waits_then}
use Rattle.rc_plan.proofs.sides.read_sides.Goals as goal

pub returns-in-Ok-read_side-clause-waits : goal.returns-in-Ok-read_side-clause-waits
returns-in-Ok-read_side-clause-waits g c = waits_then _ _ _ _ _ _ _ _ _ (λ part. refl) c.in-Ok.ensures.waits c.in-Ok-read_side.ensures.waits

pub returns-in-Err-read_side-clause-waits : goal.returns-in-Err-read_side-clause-waits
returns-in-Err-read_side-clause-waits g c = waits_then _ _ _ _ _ _ _ _ _ (λ part. refl) c.in-Ok.ensures.waits c.in-Err-read_side.ensures.waits
