-- When a unit may be prepared, when bytes may be put, and when neither.
use Rattle.std.proofs.Common.{◌≡◌, ℕ, zero, suc, ◌<◌, ◌==◌, true, false, List, [], ◌∷◌, length, refl, sym, ap, subst, ◌∙◌, arith, true≢false}
use Rattle.std.specs.Prelude.{Option, Some, IsSomeAnd}
use Rattle.rc_core.specs.Events.{Found, held_under, is_next_piece, is_piece, prepare_unit, put_piece, put_unit, where_some}
use Rattle.rc_core.specs.declared.state.State.{State}

-- a unit may be put, and becomes so
abbrev pub MayPut : State → ℕ → ℕ → List ℕ → State → Type 0
MayPut state n ticket bytes new =
    IsSomeAnd (held_under state n ticket) (λ found. is_piece bytes found ≡ true) × (new ≡ where_some state (put_unit state n bytes) (held_under state n ticket))

pub prepare_allowed : (state : State) (n ticket : ℕ) (bytes : List ℕ) (found : Found) (new : State) → held_under state n ticket ≡ Some found → length bytes ≡ 0 → new ≡ prepare_unit state n found.row found.holding → MayPut state n ticket bytes new
prepare_allowed state n ticket [] found new is none so =
    (subst (λ (o : Option Found). IsSomeAnd o (λ found. is_piece [] found ≡ true)) (sym is) refl, so ∙ sym (ap (where_some state (put_unit state n [])) is))
prepare_allowed state n ticket (byte ∷ bytes) found new is none so = absurd (omega (arith, none))

pub piece_allowed : (state : State) (n ticket : ℕ) (bytes : List ℕ) (found : Found) (new : State) → held_under state n ticket ≡ Some found → 0 < length bytes → is_next_piece bytes found.row found.holding found.file_of ≡ true → new ≡ put_piece state n bytes found.row found.holding → MayPut state n ticket bytes new
piece_allowed state n ticket [] found new is some next so = absurd (omega (arith, some))
piece_allowed state n ticket (byte ∷ bytes) found new is some next so =
    (subst (λ (o : Option Found). IsSomeAnd o (λ found. is_piece (byte ∷ bytes) found ≡ true)) (sym is) next, so ∙ sym (ap (where_some state (put_unit state n (byte ∷ bytes))) is))

pub piece_refused : (state : State) (n ticket : ℕ) (bytes : List ℕ) (found : Found) → held_under state n ticket ≡ Some found → 0 < length bytes → is_next_piece bytes found.row found.holding found.file_of ≡ false → IsSomeAnd (held_under state n ticket) (λ found. is_piece bytes found ≡ true) → ⊥
piece_refused state n ticket [] found is some next may = omega (arith, some)
piece_refused state n ticket (byte ∷ bytes) found is some next may =
    true≢false (sym (subst (λ (o : Option Found). IsSomeAnd o (λ found. is_piece (byte ∷ bytes) found ≡ true)) is may) ∙ next)

pub some_bytes : (n : ℕ) → (n == 0) ≡ false → 0 < n
some_bytes zero e = absurd (true≢false e)
some_bytes (suc n) e = omega arith
