-- The last name of a path, and of its key.
use Rattle.std.proofs.Common.{◌≡◌, ◌<◌, ℕ, List, [], ◌∷◌, zero, suc, length, get_or, refl, arith}
use Rattle.rc_tree.specs.Name.{folded}
use Rattle.rc_tree.specs.Path.{key_of, last_name}

pub no_names : (names : List (List ℕ)) → length names < 1 → names ≡ []
no_names [] few = refl
no_names (name ∷ names) few = absurd (omega (arith, few))

pub last_name-at : (names : List (List ℕ)) (n : ℕ) (name : List ℕ) → length names ≡ suc n → name ≡ get_or names n name → name ≡ last_name names
last_name-at [] n name long is = absurd (omega (arith, long))
last_name-at (first ∷ []) zero name long is = is
last_name-at (first ∷ []) (suc n) name long is = absurd (omega (arith, long))
last_name-at (first ∷ next ∷ names) zero name long is = absurd (omega (arith, long))
last_name-at (first ∷ next ∷ names) (suc n) name long is = last_name-at (next ∷ names) n name (omega (arith, long)) is

-- the last name of a key is that of the path, folded
pub last_name-key : (path : List (List ℕ)) → last_name (key_of path) ≡ folded (last_name path)
last_name-key [] = refl
last_name-key (name ∷ []) = refl
last_name-key (first ∷ next ∷ names) = last_name-key (next ∷ names)
