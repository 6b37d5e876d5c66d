-- A reader that is made for one range of a file opens it.
use Rattle.std.proofs.Common.{◌≡◌, ℕ, List, [], ◌∷◌, arith, refl, sym, ap, subst}
use Rattle.std.specs.List.{Contains}
use Rattle.rc_tree.specs.Path.{key_of}
use Rattle.rc_volume.specs.declared.want.Want.{Want}
use Rattle.rc_volume.specs.Reading.{Opens}

pub opens_range : (wants : List Want) (want : Want) (path : List (List ℕ)) (off len size : ℕ) → wants ≡ want ∷ [] → want.ranges ≡ (off, len) ∷ [] → want.path ≡ path → size ≡ len → Opens wants (key_of path) off size
opens_range wants want path off len size wants_is ranges_is path_is size_is =
    let here : Contains wants want = subst (λ (ws : List Want). Contains ws want) (sym wants_is) (0, omega arith, refl) in
    let range : Contains want.ranges (off, len) = subst (λ (rs : List (ℕ × ℕ)). Contains rs (off, len)) (sym ranges_is) (0, omega arith, refl) in
    (want, (off, len), here, ap key_of path_is, range, omega arith, omega (arith, size_is))
