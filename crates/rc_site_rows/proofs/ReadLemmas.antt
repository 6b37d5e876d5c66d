-- A reader that is made for the first byte of a file opens it.
use Rattle.std.proofs.Common.{◌≡◌, ℕ, List, [], ◌∷◌, arith, refl, sym, ap, subst}
use Rattle.std.specs.List.{Contains}
use Rattle.rc_tree.specs.Path.{key_of}
use Rattle.rc_volume.specs.declared.want.Want.{Want}
use Rattle.rc_volume.specs.Reading.{Opens}

pub opens-first : (wants : List Want) (want : Want) (path : List (List ℕ)) → wants ≡ want ∷ [] → want.ranges ≡ (0, 1) ∷ [] → want.path ≡ path → Opens wants (key_of path) 0 1
opens-first wants want path wants_is ranges_is path_is =
    let here : Contains wants want = subst (λ (ws : List Want). Contains ws want) (sym wants_is) (0, omega arith, refl) in
    let range : Contains want.ranges (0, 1) = subst (λ (rs : List (ℕ × ℕ)). Contains rs (0, 1)) (sym ranges_is) (0, omega arith, refl) in
    (want, (0, 1), here, ap key_of path_is, range, omega arith, omega arith)
