-- How a text grows piece by piece.
use Rattle.std.proofs.Common.{◌≡◌, ℕ, ◌+◌, ◌-◌, ◌<◌, ◌≤◌, List, [], ◌∷◌, ◌++◌, length, take, get_or, replicate, sym, ap, ◌∙◌, arith, append_assoc}
use Rattle.std.proofs.lemmas.List.{flat_map_more, replicate-append-replicate, take_more}
use Rattle.std.specs.List.{flat_map}

-- one more space behind those from a place on
pub spaces_more : (line old : List ℕ) (from i : ℕ) → from ≤ i → line ≡ old ++ replicate (i - from) 32 → line ++ 32 ∷ [] ≡ old ++ replicate (i + 1 - from) 32
spaces_more line old from i le e =
    ap (λ (bs : List ℕ). bs ++ 32 ∷ []) e ∙ append_assoc old (replicate (i - from) 32) (32 ∷ [])
    ∙ ap (λ (bs : List ℕ). old ++ bs) (replicate-append-replicate (i - from) 1 32)
    ∙ ap (λ (k : ℕ). old ++ replicate k 32) (let k : (i - from) + 1 ≡ i + 1 - from = omega arith in k)

-- one more element's piece behind those of the elements before it
pub pieces_more : {X : Type 0} (piece : X → List ℕ) (xs : List X) (i : ℕ) (x : X) (old mid new : List ℕ) → i < length xs → x ≡ get_or xs i x → mid ≡ old ++ flat_map piece (take i xs) → new ≡ mid ++ piece x → new ≡ old ++ flat_map piece (take (i + 1) xs)
pieces_more piece xs i x old mid new l at e f =
    f ∙ ap (λ (bs : List ℕ). bs ++ piece x) e ∙ flat_map_more piece old (take i xs) x
    ∙ ap (λ ys. old ++ flat_map piece ys) (ap (λ y. take i xs ++ y ∷ []) at ∙ sym (take_more xs i x l))
