-- What every list of events from a beginning leads to, and what a stop may leave of it.
use Rattle.std.proofs.Common.{◌≡◌, ℕ, Bool, List, [], ◌∷◌, refl, sym, subst, ◌∙◌}
use Rattle.std.specs.Prelude.{Option, Some, None, option_map}
use Rattle.rc_class.specs.Start.{Start}
use Rattle.rc_core.specs.Events.{Allows, Closing, Found, Run, after, claim, closing, fail_finish, fail_unit, finish, held_under, marked_as, put_unit, settle_unit, where_some}
use Rattle.rc_core.specs.Follows.{Follows, IsHeld, Opening}
use Rattle.rc_core.specs.Images.{image_of}
use Rattle.rc_core.specs.Nodes.{node_of}
use Rattle.rc_core.specs.Opened.{opening_of}
use Rattle.rc_core.specs.Rows.{end_of, in_state, unit_row, with_file, with_unit}
use Rattle.rc_core.specs.Sound.{IsFirst, Sound}
use Rattle.rc_core.specs.declared.event.Event.{Event}
use Rattle.rc_core.specs.declared.event.Event.TheVariants as event
use Rattle.rc_core.specs.declared.event.What.{What}
use Rattle.rc_core.specs.declared.event.What.TheVariants as what
use Rattle.rc_core.specs.declared.node.Node as core
use Rattle.rc_core.specs.declared.state.State.{State}
use Rattle.rc_core.proofs.Beginnings.{opened_sound}
use Rattle.rc_core.proofs.HeldLaw.{follower_held}
use Rattle.rc_core.proofs.ImagesFollow.{image_follows}
use Rattle.rc_core.proofs.KeptSteps.{run_kept}
use Rattle.rc_core.proofs.LaidOut.{Fill}

-- The opening stays

where_kept : {A : Type 0} (state : State) (effect : A → State) (o : Option A) → ((a : A) → opening_of (effect a) ≡ opening_of state) → opening_of (where_some state effect o) ≡ opening_of state
where_kept state effect None each = refl
where_kept state effect (Some a) each = each a

put_opening : (state : State) (n : ℕ) (bytes : List ℕ) (found : Found) → opening_of (put_unit state n bytes found) ≡ opening_of state
put_opening state n [] found = refl
put_opening state n (byte ∷ bytes) found = refl

fail_opening : (state : State) (what : What) (ticket : ℕ) (booked : Bool) (left : Option core.Node) → opening_of (after state (event.Fail what ticket booked left)) ≡ opening_of state
fail_opening state (what.Unit n) ticket booked left =
    where_kept state (λ found. fail_unit state n booked (option_map node_of left) found.row found.holding.prepared) (held_under state n ticket) (λ found. refl)
fail_opening state (what.Finish place) ticket booked left =
    where_kept state (λ (found : Closing). with_file found.number (fail_finish state.noted.plan.with_bytes state.retries booked (option_map node_of left) (end_of state found.row)) state) (closing state place) (λ found. refl)

event_opening : (state : State) (event : Event) → opening_of (after state event) ≡ opening_of state
event_opening state (event.Claim n) = where_kept state (claim state n) (unit_row state n) (λ row. refl)
event_opening state (event.Put n ticket bytes) = where_kept state (put_unit state n bytes) (held_under state n ticket) (put_opening state n bytes)
event_opening state (event.Settle n ticket) = where_kept state (λ found. settle_unit state n found.row found.holding) (held_under state n ticket) (λ found. refl)
event_opening state (event.Mark n ticket stood) = where_kept state (λ found. with_unit n (in_state (marked_as stood) found.row) state) (held_under state n ticket) (λ found. refl)
event_opening state (event.Finish item stood) = where_kept state (finish state stood) (closing state item) (λ found. refl)
event_opening state (event.Fail what ticket booked left) = fail_opening state what ticket booked left
event_opening state (event.Stop image units finished) = refl
event_opening state event.Rerun = refl

run_opening : (state new : State) (events : List Event) → Run state events new → opening_of new ≡ opening_of state
run_opening state new events (Run.ends now) = refl
run_opening state new events (Run.steps now first later last may rest) = run_opening (after now first) last later rest ∙ event_opening now first

-- From a beginning

first_sound : (state : State) → IsFirst state → Sound state
first_sound state first =
    subst Sound (sym first.begun) (opened_sound state.noted state.rules state.source state.target state.retries first.is_open first.source_rising first.target_rising)

pub stop_follows : Fill → (first state : State) (events : List Event) (image : List core.Node) (units finished : List Bool) → IsFirst first → Run first events state → Allows state (event.Stop image units finished) → Follows (opening_of first) (image_of state image units finished)
stop_follows fill first state events image units finished begins run may =
    subst (λ (opening : Opening). Follows opening (image_of state image units finished)) (run_opening first state events run)
    (image_follows state (run_kept fill first state events (first_sound first begins) run) image units finished may.1)

pub stop_held : Fill → (first state : State) (events : List Event) (image : List core.Node) (units finished : List Bool) → IsFirst first → Run first events state → Allows state (event.Stop image units finished) → (start : Start) → first.rules ≡ start.rules → IsHeld start (opening_of first).image → IsHeld start (image_of state image units finished)
stop_held fill first state events image units finished begins run may start rules held =
    follower_held start (opening_of first) rules begins.is_open.follows.not_last held (image_of state image units finished)
    (stop_follows fill first state events image units finished begins run may)
