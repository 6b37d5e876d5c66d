-- That each event, and each list of events, keeps a state sound.
use Rattle.std.proofs.Common.{List, subst, sym}
use Rattle.std.specs.Prelude.{Result, Ok, Err}
use Rattle.rc_core.specs.Events.{Allows, Run, Steps, after}
use Rattle.rc_core.specs.Sound.{Sound}
use Rattle.rc_core.specs.declared.event.CoreErr.{CoreErr}
use Rattle.rc_core.specs.declared.event.CoreErr.TheVariants as core_err
use Rattle.rc_core.specs.declared.event.Event.{Event}
use Rattle.rc_core.specs.declared.event.Event.TheVariants as event
use Rattle.rc_core.specs.declared.state.State.{State}
use Rattle.rc_core.proofs.KeptClaims.{claim_kept, mark_kept, settle_kept}
use Rattle.rc_core.proofs.KeptFails.{fail_kept}
use Rattle.rc_core.proofs.KeptFinishes.{finish_kept}
use Rattle.rc_core.proofs.KeptPuts.{put_kept}
use Rattle.rc_core.proofs.KeptStops.{rerun_kept, stop_kept}
use Rattle.rc_core.proofs.LaidOut.{Fill}

pub event_kept : Fill → (state : State) (event : Event) → Sound state → Allows state event → Sound (after state event)
event_kept fill state (event.Claim n) sound may = claim_kept state n sound may.1
event_kept fill state (event.Put n ticket bytes) sound may = put_kept fill state n ticket bytes sound may.1
event_kept fill state (event.Settle n ticket) sound may = settle_kept state n ticket sound may.1
event_kept fill state (event.Mark n ticket stood) sound may = mark_kept state n ticket stood sound may.1
event_kept fill state (event.Finish item stood) sound may = finish_kept fill state item stood sound may.1
event_kept fill state (event.Fail what ticket booked left) sound may = fail_kept fill state what ticket booked left sound may.1
event_kept fill state (event.Stop image units finished) sound may = stop_kept state sound image units finished may.1
event_kept fill state event.Rerun sound may = rerun_kept state sound

pub run_kept : Fill → (state new : State) (events : List Event) → Sound state → Run state events new → Sound new
run_kept fill state new events sound (Run.ends now) = sound
run_kept fill state new events sound (Run.steps now first later last may rest) = run_kept fill (after now first) last later (event_kept fill now first sound may) rest

-- what a step leaves is sound
pub step_kept : {T : Type 0} → ((state : State) (event : Event) → Sound state → Allows state event → Sound (after state event)) → (old : State) (event : Event) (result : Result T CoreErr) (new : State) → Steps old event result new → Sound old → Sound new
step_kept law old event (Ok done) new steps sound = subst Sound (sym steps.1) (law old event sound steps.0)
step_kept law old event (Err (core_err.NotAllowed n)) new steps sound = subst Sound (sym steps.2) sound
step_kept law old event (Err core_err.NoMemory) new steps sound = subst Sound (sym steps) sound
