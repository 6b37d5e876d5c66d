-- What is known of a unit that is held, and of a file that only its finish is missing.
use Rattle.std.proofs.Common.{◌≡◌, ℕ, Bool, true, false, cond, ◌&&◌, ◌==◌, refl, sym, ap, subst, ◌∙◌, true≢false}
use Rattle.std.specs.Prelude.{Option, Some, None, IsSomeAnd}
use Rattle.rc_core.specs.Events.{Closing, Found, closing, closing_at, closing_in, found_at, found_in, held_under}
use Rattle.rc_core.specs.Rows.{all_marked, file_number, file_row, holding_of, is_done, is_free, is_marked, is_open, unit_row}
use Rattle.rc_core.specs.Sound.{Sound}
use Rattle.rc_core.specs.declared.rows.FileRow.{FileRow}
use Rattle.rc_core.specs.declared.rows.FileState.{FileState}
use Rattle.rc_core.specs.declared.rows.FileState.TheVariants as file
use Rattle.rc_core.specs.declared.rows.Holding.{Holding}
use Rattle.rc_core.specs.declared.rows.UnitRow.{UnitRow}
use Rattle.rc_core.specs.declared.rows.UnitState.{UnitState}
use Rattle.rc_core.specs.declared.rows.UnitState.TheVariants as unit
use Rattle.rc_core.specs.declared.state.State.{State}
use Rattle.rc_core.proofs.Lists.{same_some, some_none}

-- Options and tests

pub some_and : {A : Type 0} (o : Option A) (P : A → Type 0) → IsSomeAnd o P → (x : A) × (o ≡ Some x) × P x
some_and None P is = absurd is
some_and (Some x) P is = (x, refl, is)

pub both_true : (a b : Bool) → a && b ≡ true → (a ≡ true) × (b ≡ true)
both_true true b e = (refl, e)
both_true false b e = absurd (true≢false (sym e))

-- Units

pub held_state : (s : UnitState) (holding : Holding) → holding_of s ≡ Some holding → s ≡ unit.Held holding
held_state unit.Free holding e = absurd (some_none holding e)
held_state (unit.Held other) holding e = ap (λ (h : Holding). unit.Held h) (same_some other holding e)
held_state unit.Doubtful holding e = absurd (some_none holding e)
held_state unit.Marked holding e = absurd (some_none holding e)

pub held_not_marked : (s : UnitState) (holding : Holding) → holding_of s ≡ Some holding → is_marked s ≡ true → ⊥
held_not_marked s holding held marked = true≢false (sym marked ∙ ap is_marked (held_state s holding held))

pub free_not_marked : (s : UnitState) → is_free s ≡ true → is_marked s ≡ true → ⊥
free_not_marked unit.Free free marked = true≢false (sym marked)
free_not_marked (unit.Held holding) free marked = true≢false (sym marked)
free_not_marked unit.Doubtful free marked = true≢false (sym marked)
free_not_marked unit.Marked free marked = true≢false (sym free)

-- a unit that is held, with its file
pub record IsHeldUnder (state : State) (n : ℕ) (found : Found) : Type 0 where
  pub is_unit : unit_row state n ≡ Some found.row
  pub is_held : holding_of found.row.state ≡ Some found.holding
  pub is_file : file_row state found.row.extent.file ≡ Some found.file_of

pub held_found : (state : State) (n ticket : ℕ) (found : Found) → held_under state n ticket ≡ Some found → IsHeldUnder state n found
held_found state n ticket found e = by_row (unit_row state n) refl e
  where
    by_test : (row : UnitRow) (holding : Holding) (file_of : FileRow) (b : Bool) → unit_row state n ≡ Some row → holding_of row.state ≡ Some holding → file_row state row.extent.file ≡ Some file_of → cond b (Some (record { row = row; holding = holding; file_of = file_of })) None ≡ Some found → IsHeldUnder state n found
    by_test row holding file_of true is held of at = subst (IsHeldUnder state n) (same_some (record { row = row; holding = holding; file_of = file_of }) found at) (record { is_unit = is; is_held = held; is_file = of })
    by_test row holding file_of false is held of at = absurd (some_none found at)

    by_parts : (row : UnitRow) (o : Option Holding) (p : Option FileRow) → unit_row state n ≡ Some row → holding_of row.state ≡ o → file_row state row.extent.file ≡ p → found_in ticket row o p ≡ Some found → IsHeldUnder state n found
    by_parts row None p is held of at = absurd (some_none found at)
    by_parts row (Some holding) None is held of at = absurd (some_none found at)
    by_parts row (Some holding) (Some file_of) is held of at = by_test row holding file_of (holding.ticket == ticket) is held of at

    by_row : (o : Option UnitRow) → unit_row state n ≡ o → found_at state ticket o ≡ Some found → IsHeldUnder state n found
    by_row None is at = absurd (some_none found at)
    by_row (Some row) is at = by_parts row (holding_of row.state) (file_row state row.extent.file) is refl refl at

false_from : (b : Bool) → (b ≡ true → ⊥) → b ≡ false
false_from true not_so = absurd (not_so refl)
false_from false not_so = refl

-- its file is not done
pub held_undone : (state : State) → Sound state → (n : ℕ) (found : Found) → IsHeldUnder state n found → is_done found.file_of.state ≡ false
held_undone state sound n found held =
    false_from (is_done found.file_of.state)
    (λ done. held_not_marked found.row.state found.holding held.is_held ((sound.files found.row.extent.file found.file_of held.is_file).closed done n found.row held.is_unit refl))

-- Files

-- an open file whose units are all marked
pub record IsClosing (state : State) (found : Closing) : Type 0 where
  pub is_file : file_row state found.number ≡ Some found.row
  pub is_open : is_open found.row.state ≡ true
  pub marked : all_marked state found.number ≡ true

pub closing_found : (state : State) (place : ℕ) (found : Closing) → closing state place ≡ Some found → IsClosing state found
closing_found state place found e = by_number (file_number state place) e
  where
    by_test : (n : ℕ) (row : FileRow) (b : Bool) → file_row state n ≡ Some row → all_marked state n && is_open row.state ≡ b → cond b (Some (record { number = n; row = row })) None ≡ Some found → IsClosing state found
    by_test n row true is so at =
        let tests = both_true (all_marked state n) (is_open row.state) so in
        subst (IsClosing state) (same_some (record { number = n; row = row }) found at) (record { is_file = is; is_open = tests.1; marked = tests.0 })
    by_test n row false is so at = absurd (some_none found at)

    by_row : (n : ℕ) (o : Option FileRow) → file_row state n ≡ o → closing_in state n o ≡ Some found → IsClosing state found
    by_row n None is at = absurd (some_none found at)
    by_row n (Some row) is at = by_test n row (all_marked state n && is_open row.state) is refl at

    by_number : (o : Option ℕ) → closing_at state o ≡ Some found → IsClosing state found
    by_number None at = absurd (some_none found at)
    by_number (Some n) at = by_row n (file_row state n) refl at

pub open_undone : (s : FileState) → is_open s ≡ true → is_done s ≡ false
open_undone file.Open e = refl
open_undone file.Doubtful e = absurd (true≢false (sym e))
open_undone file.Finished e = absurd (true≢false (sym e))
open_undone file.GivenUp e = absurd (true≢false (sym e))
