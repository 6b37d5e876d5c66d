-- That claiming, settling and marking keep a state sound.
use Rattle.std.proofs.Common.{◌≡◌, ℕ, ◌+◌, Bool, true, false, ◌==◌, not, [], get_or, refl, sym, ap, subst, ◌∙◌, arith, true≢false}
use Rattle.std.proofs.lemmas.Option.{slice_get-get_or, slice_get-map}
use Rattle.std.proofs.lemmas.List.Quantifiers.{position-Some}
use Rattle.std.proofs.lemmas.List.Elements.{All-cons, All-nil}
use Rattle.std.specs.Prelude.{Option, Some, IfSome, IsSomeAnd, slice_get}
use Rattle.rc_core.specs.Copies.{Holds}
use Rattle.rc_core.specs.Events.{Found, MayClaim, after, claim, claimed, held_under, is_claimable, is_whole, marked_as, settle_unit, where_some}
use Rattle.rc_core.specs.Rows.{all_synced, file_row, has, holding_of, in_state, is_free, is_given_up, is_settled, range_of, synced, unit_row, with_unit}
use Rattle.rc_core.specs.Sound.{IsApart, IsSoundHolding, IsSoundUnit, Sound, front_of}
use Rattle.rc_core.specs.declared.event.Event.TheVariants as event
use Rattle.rc_core.specs.declared.rows.FileRow.{FileRow}
use Rattle.rc_core.specs.declared.rows.Holding.{Holding}
use Rattle.rc_core.specs.declared.rows.UnitRow.{UnitRow}
use Rattle.rc_core.specs.declared.rows.UnitState.TheVariants as unit
use Rattle.rc_core.specs.declared.state.State.{State}
use Rattle.rc_core.proofs.Found.{IsHeldUnder, both_true, free_not_marked, held_found, held_not_marked, held_state, some_and}
use Rattle.rc_core.proofs.Kept.{IsOwnTicket, same_ticket, sync_kept, unit_kept}
use Rattle.rc_core.proofs.Lists.{mapped, same_some, some_none}

-- Claim

claimed_unit : (next : ℕ) (row : UnitRow) (file : FileRow) → IsSoundUnit (in_state (unit.Held (claimed next)) row) file
claimed_unit next row file = record {
  held = λ settled. absurd (true≢false (sym settled));
  apart = λ settled. absurd (true≢false (sym settled));
  holding = record {
    inside = omega arith;
    unprepared = λ _. refl;
    stood = λ prepared. absurd (true≢false (sym prepared));
    settled = λ settled. absurd (true≢false (sym settled));
  };
}

next_ticket : (state : State) → Sound state → (n : ℕ) → IsOwnTicket state n (state.next + 1) state.next
next_ticket state sound n = record {
  some = sound.next;
  earlier = omega arith;
  own = λ m other held apart at has same. absurd (let before = sound.tickets m other held at has in omega (arith, before.1, same));
}

claim_row : (state : State) → Sound state → (n : ℕ) (row : UnitRow) → unit_row state n ≡ Some row → is_free row.state ≡ true → Sound (claim state n row)
claim_row state sound n row is free =
    unit_kept state sound n row (in_state (unit.Held (claimed state.next)) row) (state.next + 1) is refl
    (λ marked. absurd (free_not_marked row.state free marked))
    (λ file of good. claimed_unit state.next row file)
    (omega arith)
    (λ holding held. subst (λ (h : Holding). IsOwnTicket state n (state.next + 1) h.ticket) (same_some (claimed state.next) holding held) (next_ticket state sound n))

pub claim_kept : (state : State) (n : ℕ) → Sound state → MayClaim state n → Sound (after state (event.Claim n))
claim_kept state n sound may =
    let found = position-Some (is_claimable state) state.units n no_row may.least in
    let row = get_or state.units n no_row in
    let at : unit_row state n ≡ Some row = slice_get-get_or state.units n no_row found.0 in
    let free = (both_true (is_free row.state) (has (λ (file_of : FileRow). not (is_given_up file_of.state)) (file_row state row.extent.file)) found.1).0 in
    subst (λ (o : Option UnitRow). Sound (where_some state (claim state n) o)) (sym at) (claim_row state sound n row at free)
  where
    no_row : UnitRow
    no_row = record { extent = record { file = 0; off = 0; len = 0 }; state = unit.Free; attempts = 0 }

-- Settle

equal_numbers : (a b : ℕ) → (a == b) ≡ true → a ≡ b
equal_numbers a b e = grind arith

settled_unit : (row : UnitRow) (holding : Holding) (old : FileRow) → holding_of row.state ≡ Some holding → holding.prepared ≡ true → holding.put ≡ row.extent.len → IsSoundUnit row (synced old) → IsSoundUnit (in_state (unit.Held (record holding { settled = true })) row) (synced old)
settled_unit row holding old held prepared put good =
    let of : IsSoundHolding row.extent old.file.source old.stands holding = subst (λ (o : Option Holding). IfSome o (IsSoundHolding row.extent old.file.source old.stands)) held good.holding in
    let whole : Holds (range_of row.extent) old.file.source old.stands = subst (λ n. Holds (front_of row.extent n) old.file.source old.stands) put (of.stood prepared) in
    record {
      held = λ _. All-cons (Holds (range_of row.extent) old.file.source) old.stands [] whole (All-nil (Holds (range_of row.extent) old.file.source));
      apart = λ _. All-nil (IsApart row.extent);
      holding = record { inside = of.inside; unprepared = of.unprepared; stood = of.stood; settled = λ _. (prepared, put) };
    }

settle_row : (state : State) → Sound state → (n : ℕ) (found : Found) → IsHeldUnder state n found → is_whole found ≡ true → Sound (settle_unit state n found.row found.holding)
settle_row state sound n found held whole =
    let tests = both_true found.holding.prepared (found.holding.put == found.row.extent.len) whole in
    let put = equal_numbers found.holding.put found.row.extent.len tests.1 in
    unit_kept (all_synced state) (sync_kept state sound) n found.row (in_state (unit.Held (record found.holding { settled = true })) found.row) state.next held.is_unit refl
    (λ marked. absurd (held_not_marked found.row.state found.holding held.is_held marked))
    (λ file of good.
    let old = mapped synced (slice_get state.files found.row.extent.file) file (sym (slice_get-map synced state.files found.row.extent.file) ∙ of) in
    subst (IsSoundUnit (in_state (unit.Held (record found.holding { settled = true })) found.row)) old.2
    (settled_unit found.row found.holding old.0 held.is_held tests.0 put (subst (IsSoundUnit found.row) (sym old.2) good)))
    (omega arith)
    (λ holding is. subst (λ (h : Holding). IsOwnTicket (all_synced state) n state.next h.ticket) (same_some (record found.holding { settled = true }) holding is) (same_ticket (all_synced state) (sync_kept state sound) n found.row found.holding held.is_unit held.is_held))

pub settle_kept : (state : State) (n ticket : ℕ) → Sound state → IsSomeAnd (held_under state n ticket) (λ found. is_whole found ≡ true) → Sound (after state (event.Settle n ticket))
settle_kept state n ticket sound may =
    let found = some_and (held_under state n ticket) (λ found. is_whole found ≡ true) may in
    subst (λ (o : Option Found). Sound (where_some state (λ found. settle_unit state n found.row found.holding) o)) (sym found.1)
    (settle_row state sound n found.0 (held_found state n ticket found.0 found.1) found.2)

-- Mark

marked_unit : (stood : Bool) (row : UnitRow) (file : FileRow) → is_settled row.state ≡ true → IsSoundUnit row file → IsSoundUnit (in_state (marked_as stood) row) file
marked_unit true row file settled good = record { held = λ _. good.held settled; apart = λ _. good.apart settled; holding = tt }
marked_unit false row file settled good = record { held = λ _. good.held settled; apart = λ _. good.apart settled; holding = tt }

no_holding : (stood : Bool) (holding : Holding) → holding_of (marked_as stood) ≡ Some holding → ⊥
no_holding true holding e = some_none holding e
no_holding false holding e = some_none holding e

mark_row : (state : State) → Sound state → (n : ℕ) (stood : Bool) (found : Found) → IsHeldUnder state n found → found.holding.settled ≡ true → Sound (with_unit n (in_state (marked_as stood) found.row) state)
mark_row state sound n stood found held settled =
    unit_kept state sound n found.row (in_state (marked_as stood) found.row) state.next held.is_unit refl
    (λ marked. absurd (held_not_marked found.row.state found.holding held.is_held marked))
    (λ file of good. marked_unit stood found.row file (ap is_settled (held_state found.row.state found.holding held.is_held) ∙ settled) good)
    (omega arith)
    (λ holding is. absurd (no_holding stood holding is))

pub mark_kept : (state : State) (n ticket : ℕ) (stood : Bool) → Sound state → IsSomeAnd (held_under state n ticket) (λ found. found.holding.settled ≡ true) → Sound (after state (event.Mark n ticket stood))
mark_kept state n ticket stood sound may =
    let found = some_and (held_under state n ticket) (λ found. found.holding.settled ≡ true) may in
    subst (λ (o : Option Found). Sound (where_some state (λ found. with_unit n (in_state (marked_as stood) found.row) state) o)) (sym found.1)
    (mark_row state sound n stood found.0 (held_found state n ticket found.0 found.1) found.2)
