-- Numbers that grow digit by digit.
use Rattle.std.proofs.Common.{◌≡◌, ℕ, ◌+◌, ◌-◌, ◌*◌, ◌≤◌, List, [], ◌∷◌, ap, arith}
use Rattle.rc_words.specs.Values.{number_in}

grows : (n : ℕ) (cs : List ℕ) → n ≤ number_in n cs
grows n [] = omega arith
grows n (c ∷ cs) = omega (arith, grows (10 * n + (c - 48)) cs)

-- with one more digit a number is too large, and so is the whole
pub too_large : (most n c : ℕ) (rest later text : List ℕ) → rest ≡ c ∷ later → number_in n rest ≡ number_in 0 text → most ≤ 10 * n + (c - 48) → most ≤ number_in 0 text
too_large most n c rest later text e ahead large =
    let here : number_in n rest ≡ number_in (10 * n + (c - 48)) later = ap (number_in n) e in
    omega (arith, here, ahead, large, grows (10 * n + (c - 48)) later)
