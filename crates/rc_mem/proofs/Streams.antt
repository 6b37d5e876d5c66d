-- Bytes that are taken from the front of what is left.
use Rattle.std.proofs.Common.{◌≡◌, ℕ, ◌+◌, ◌-◌, ◌≤◌, min, List, ◌++◌, length, take, drop, sym, ap, subst, ◌∙◌, arith, length-take}
use Rattle.std.proofs.lemmas.List.{take_at, take_rest, take-append-drop, drop-drop}

-- the bytes that were copied and those that are left are those that were left
pub taken-front : (bytes shown buf copied : List ℕ) (taken n : ℕ) → shown ≡ bytes → n ≡ min (length buf) (length (take (length shown - taken) (drop taken shown))) → copied ≡ take n (take (length shown - taken) (drop taken shown))
    → drop taken bytes ≡ take n (copied ++ drop n buf) ++ drop (taken + n) bytes
taken-front bytes shown buf copied taken n same count is =
    let rest = drop taken bytes in
    let whole : take (length shown - taken) (drop taken shown) ≡ rest = take_rest shown taken ∙ ap (drop taken) same in
    let within : n ≤ length rest = subst (λ (xs : List ℕ). n ≤ length xs) whole (omega (arith, count)) in
    let front : copied ≡ take n rest = is ∙ ap (take n) whole in
    let size : length copied ≡ n = ap length front ∙ omega (arith, length-take n rest) in
    sym (ap (λ (xs : List ℕ). xs ++ drop (taken + n) bytes) (take_at copied (drop n buf) n size ∙ front) ∙ ap (λ (xs : List ℕ). take n rest ++ xs) (sym (drop-drop n taken bytes)) ∙ take-append-drop n rest)
