-- The last name of a path, as the last element of its list of names.
use Rattle.std.proofs.Common.{◌≡◌, ℕ, suc, ◌-◌, ◌<◌, List, [], ◌∷◌, get_or, length, true, refl, sym, ap, ◌∙◌, arith, true≢false}
use Rattle.std.proofs.Math.Dec.{ltb}
use Rattle.rc_tree.specs.Path.{last_name}

pub last_at : (names : List (List ℕ)) (d : List ℕ) → 0 < length names → last_name names ≡ get_or names (length names - 1) d
last_at [] d some = absurd (omega (arith, some))
last_at (name ∷ []) d some = refl
last_at (name ∷ next ∷ names) d some =
    let before : length (name ∷ next ∷ names) - 1 ≡ suc (length (next ∷ names) - 1) = omega arith in
    last_at (next ∷ names) d (omega arith) ∙ ap (λ n. get_or (name ∷ next ∷ names) n d) (sym before)

-- the last of the names that were given out
pub last_is : (names path : List (List ℕ)) (name : List ℕ) → names ≡ path → true ≡ ltb 0 (length names) → name ≡ get_or names (length names - 1) name → name ≡ last_name path
last_is [] path name same some is = absurd (true≢false some)
last_is (first ∷ names) path name same some is = is ∙ sym (last_at (first ∷ names) name (omega arith)) ∙ ap last_name same
