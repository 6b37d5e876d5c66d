-- Records that stand for nothing, and what steps of writing make of them.
use Rattle.std.proofs.Common.{◌≡◌, ℕ, ◌+◌, ◌<◌, ◌≤◌, Bool, true, false, ◌&&◌, cond, ltb, List, [], ◌∷◌, ◌++◌, length, take, drop, Option, Some, None, Result, Ok, Err, refl, sym, ap, subst, ◌∙◌, arith, lt-ltb}
use Rattle.std.specs.Prelude.{IfOk}
use Rattle.std.proofs.Math.Seq.{take-add}
use Rattle.std.proofs.lemmas.List.{append-nil, drop_all, length-take, take_all}
use Rattle.rc_class.specs.declared.noted.Noted.{Noted}
use Rattle.rc_volume.specs.Log.{Event, Logs, noted, write}
use Rattle.rc_volume.specs.Site.{IsCutBytes, IsTornBytes}
use Rattle.rc_volume.specs.declared.site.SiteErr.{SiteErr}
use Rattle.rc_record.specs.Fields.{◌>>=◌}
use Rattle.rc_record.specs.Grammar.{is_open, noted_at, stands, stands_at}
use Rattle.rc_record.proofs.Since.{call_logged, now_since, then_call}
use Rattle.rc_record.specs.Moments.{EachSince}
use Rattle.rc_record.specs.Writing.{BeginsClosed, StandsForNothing}

abbrev nothing : Result (Option Noted) ℕ
nothing = Ok None

pub closed : (notes : List ℕ) → is_open notes ≡ false → StandsForNothing notes
unfolding stands
closed notes is = rw is refl

unread : (test : Bool) (read : Result Noted ℕ) → cond test (read >>= λ value. Ok (Some value)) (Ok None) ≡ nothing → test ≡ false
unread true (Ok value) e = absurd cc
unread true (Err place) e = absurd cc
unread false read e = refl

pub not_open : (notes : List ℕ) → StandsForNothing notes → is_open notes ≡ false
unfolding stands
not_open notes is = unread (is_open notes) (noted_at notes) is

-- too short for anything
pub short : (notes : List ℕ) → length notes ≤ 1 → StandsForNothing notes
short [] le = closed [] refl
short (gate ∷ []) le = closed (gate ∷ []) refl
short (gate ∷ byte ∷ notes) le = absurd (omega (arith, le))

pub no_gate : (test : Bool) → (test && false) ≡ false
no_gate true = refl
no_gate false = refl

pub some_is : (x y : ℕ) → Some x ≡ Some y → x ≡ y
some_is x y e = cc

pub begins_closed : (notes : List ℕ) → BeginsClosed notes → StandsForNothing notes
begins_closed [] is = absurd cc
begins_closed (gate ∷ notes) is =
    let zero_gate : gate ≡ 0 = some_is gate 0 is in
    closed (gate ∷ notes) (ap (λ g. ltb 1 (length (gate ∷ notes)) && stands_at g) zero_gate ∙ no_gate (ltb 1 (length (gate ∷ notes))))

behind_test : (test gate : Bool) → test ≡ true → (test && gate) ≡ false → gate ≡ false
behind_test true gate is e = e
behind_test false gate is e = absurd cc

-- a record that stands for nothing, cut to one byte or not
pub closed_cut : (old new : List ℕ) → StandsForNothing old → IsCutBytes 1 old new → StandsForNothing new
closed_cut old [] is by = short [] (omega arith)
closed_cut old (gate ∷ []) is by = short (gate ∷ []) (omega arith)
closed_cut [] (gate ∷ byte ∷ new) is by = absurd (omega (arith, by.no_longer))
closed_cut (was ∷ []) (gate ∷ byte ∷ new) is by = absurd (omega (arith, by.no_longer))
closed_cut (was ∷ next ∷ old) (gate ∷ byte ∷ new) is by =
    let same : gate ≡ was = some_is gate was (by.front 0 (omega arith)) in
    let before : stands_at was ≡ false = behind_test (ltb 1 (length (was ∷ next ∷ old))) (stands_at was) (lt-ltb 1 (length (was ∷ next ∷ old)) (omega arith)) (not_open (was ∷ next ∷ old) is) in
    closed (gate ∷ byte ∷ new) (ap (λ b. ltb 1 (length (gate ∷ byte ∷ new)) && b) (ap stands_at same ∙ before) ∙ no_gate (ltb 1 (length (gate ∷ byte ∷ new))))

-- one byte written at the front of at most one
pub closed_write : (old new : List ℕ) → length old ≤ 1 → IsTornBytes 0 1 old new → StandsForNothing new
closed_write old new le by = short new (omega (arith, by.no_longer, le))

-- bytes written behind the first
pub begins_torn : (off len : ℕ) (old new : List ℕ) → 0 < off → BeginsClosed old → IsTornBytes off len old new → BeginsClosed new
begins_torn off len [] new behind is by = absurd cc
begins_torn off len (gate ∷ old) new behind is by = by.before 0 (omega arith) behind ∙ is

-- the byte that is written
pub one_byte : (old : List ℕ) → length old ≤ 1 → take 0 old ++ (0 ∷ []) ++ drop (0 + 1) old ≡ 0 ∷ []
one_byte [] le = refl
one_byte (gate ∷ []) le = refl
one_byte (gate ∷ byte ∷ old) le = absurd (omega (arith, le))

-- one more piece was written behind the first byte, or was to be
pub piece_images : {T : Type 0} (result : Result T SiteErr) (off len : ℕ) (old new : List Event) (start : ℕ) → 0 < off → start ≤ length old → EachSince old start BeginsClosed → Logs result (noted (write off len)) old new → EachSince new start BeginsClosed
piece_images result off len old new start behind le before logged =
    then_call (write off len) old new start BeginsClosed le before (call_logged result (write off len) old new logged)
    (λ was image left by. begins_torn off len was image behind (now_since old start BeginsClosed le before was left) by)

-- what reads then
pub piece_put : (done len : ℕ) (bytes old new piece : List ℕ) → done + len ≤ length bytes → old ≡ 0 ∷ take done bytes → piece ≡ take len (drop done bytes) → new ≡ take (1 + done) old ++ piece ++ drop (1 + done + length piece) old
    → new ≡ 0 ∷ take (done + len) bytes
piece_put done len bytes old new piece within was is put =
    let long : length old ≡ 1 + done = omega (arith, ap length was, length-take done bytes, within) in
    let front : take (1 + done) old ≡ old = take_all (1 + done) old (omega (arith, long)) in
    let none : drop (1 + done + length piece) old ≡ [] = drop_all (1 + done + length piece) old (omega (arith, long)) in
    put ∙ rw (front, none, append-nil) (ap (λ (t : List ℕ). t ++ piece) was ∙ ap (λ (t : List ℕ). 0 ∷ (take done bytes ++ t)) is ∙ ap (λ (t : List ℕ). 0 ∷ t) (sym (take-add done len bytes)))

-- one byte was written over at most one
pub written_one : {T : Type 0} (result : Result T SiteErr) (old new : List ℕ) → length old ≤ 1 → IfOk result (λ _. new ≡ take 0 old ++ (0 ∷ []) ++ drop (0 + 1) old) → IfOk result (λ _. new ≡ 0 ∷ [])
written_one (Ok value) old new le is = is ∙ one_byte old le
written_one (Err e) old new le is = tt

pub written_nothing : {T : Type 0} (result : Result T SiteErr) (old new : List ℕ) → length old ≤ 1 → IfOk result (λ _. new ≡ take 0 old ++ (0 ∷ []) ++ drop (0 + 1) old) → IfOk result (λ _. StandsForNothing new)
written_nothing (Ok value) old new le is = subst StandsForNothing (sym (is ∙ one_byte old le)) (short (0 ∷ []) (omega arith))
written_nothing (Err e) old new le is = tt
