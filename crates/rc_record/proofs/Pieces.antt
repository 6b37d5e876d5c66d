-- Bytes that are put one behind the other.
use Rattle.std.proofs.Common.{◌≡◌, ℕ, ◌+◌, ◌-◌, ◌<◌, ◌≤◌, List, [], ◌∷◌, ◌++◌, length, get_or, take, drop, drop-cons, length-drop, length-append, Result, Ok, Err, refl, sym, ap, subst, ◌∙◌, append_assoc, arith}
use Rattle.std.specs.Prelude.{OnOk, All, if◌then◌else◌}
use Rattle.std.specs.List.{flat_map}
use Rattle.std.specs.Result.{is_ok}
use Rattle.std.proofs.Math.Seq.{take-length}
use Rattle.std.proofs.lemmas.List.{flat_map_more, take_more}
use Rattle.std.proofs.lemmas.List.Elements.{All-more}

-- what a push gives where it was done
pub done_on_ok : {T E : Type 0} (r : Result T E) (new done old : List ℕ) → new ≡ (if is_ok r then done else old) → OnOk r (new ≡ done)
done_on_ok (Ok x) new done old is = is
done_on_ok (Err e) new done old is = tt

-- one more item's piece behind those of the items before it
pub pieces_more : {X : Type 0} (piece : X → List ℕ) (xs : List X) (i : ℕ) (x : X) (old mid new : List ℕ) → i < length xs → x ≡ get_or xs i x → mid ≡ old ++ flat_map piece (take i xs) → new ≡ mid ++ piece x → new ≡ old ++ flat_map piece (take (i + 1) xs)
pieces_more piece xs i x old mid new l at e f =
    f ∙ ap (λ (bs : List ℕ). bs ++ piece x) e ∙ flat_map_more piece old (take i xs) x
    ∙ ap (λ ys. old ++ flat_map piece ys) (ap (λ y. take i xs ++ y ∷ []) at ∙ sym (take_more xs i x l))

pub pieces_len : {X : Type 0} (piece : X → List ℕ) (xs : List X) (i : ℕ) (x : X) → i < length xs → x ≡ get_or xs i x → length (flat_map piece (take (i + 1) xs)) ≡ length (flat_map piece (take i xs)) + length (piece x)
pieces_len piece xs i x l at =
    ap length (sym (pieces_more piece xs i x [] (flat_map piece (take i xs)) (flat_map piece (take i xs) ++ piece x) l at refl refl)) ∙ length-append (flat_map piece (take i xs)) (piece x)

pub all_more : {X : Type 0} (P : X → Type 0) (xs : List X) (i : ℕ) (x : X) → i < length xs → x ≡ get_or xs i x → All P (take i xs) → P x → All P (take (i + 1) xs)
all_more P xs i x l at all is = All-more P xs i x l all (subst P at is)

-- all elements behind the first
pub all_behind : {X : Type 0} (xs : List X) → take (length xs - 1) (drop 1 xs) ≡ drop 1 xs
all_behind xs = ap (λ (n : ℕ). take n (drop 1 xs)) (sym (length-drop 1 xs)) ∙ take-length (drop 1 xs)

-- the first element and the others
pub first_and_rest : {X : Type 0} (xs : List X) (first : X) → 1 ≤ length xs → first ≡ get_or xs 0 first → xs ≡ first ∷ take (length xs - 1) (drop 1 xs)
first_and_rest xs first some is =
    drop-cons xs 0 first (omega (arith, some)) ∙ ap (λ x. x ∷ drop 1 xs) (sym is) ∙ ap (λ rest. first ∷ rest) (sym (all_behind xs))

-- pieces put one behind the other
pub two_put : (old l1 l2 a b : List ℕ) → l1 ≡ old ++ a → l2 ≡ l1 ++ b → l2 ≡ old ++ (a ++ b)
two_put old l1 l2 a b e1 e2 = e2 ∙ ap (λ (t : List ℕ). t ++ b) e1 ∙ append_assoc old a b

pub three_put : (old l1 l2 l3 a b c : List ℕ) → l1 ≡ old ++ a → l2 ≡ l1 ++ b → l3 ≡ l2 ++ c → l3 ≡ old ++ (a ++ (b ++ c))
three_put old l1 l2 l3 a b c e1 e2 e3 = two_put old l1 l3 a (b ++ c) e1 (two_put l1 l2 l3 b c e2 e3)

pub four_put : (old l1 l2 l3 l4 a b c d : List ℕ) → l1 ≡ old ++ a → l2 ≡ l1 ++ b → l3 ≡ l2 ++ c → l4 ≡ l3 ++ d → l4 ≡ old ++ (a ++ (b ++ (c ++ d)))
four_put old l1 l2 l3 l4 a b c d e1 e2 e3 e4 = two_put old l1 l4 a (b ++ (c ++ d)) e1 (three_put l1 l2 l3 l4 b c d e2 e3 e4)

pub five_put : (old l1 l2 l3 l4 l5 a b c d e : List ℕ) → l1 ≡ old ++ a → l2 ≡ l1 ++ b → l3 ≡ l2 ++ c → l4 ≡ l3 ++ d → l5 ≡ l4 ++ e → l5 ≡ old ++ (a ++ (b ++ (c ++ (d ++ e))))
five_put old l1 l2 l3 l4 l5 a b c d e e1 e2 e3 e4 e5 = two_put old l1 l5 a (b ++ (c ++ (d ++ e))) e1 (four_put l1 l2 l3 l4 l5 b c d e e2 e3 e4 e5)

pub six_put : (old l1 l2 l3 l4 l5 l6 a b c d e f : List ℕ) → l1 ≡ old ++ a → l2 ≡ l1 ++ b → l3 ≡ l2 ++ c → l4 ≡ l3 ++ d → l5 ≡ l4 ++ e → l6 ≡ l5 ++ f → l6 ≡ old ++ (a ++ (b ++ (c ++ (d ++ (e ++ f)))))
six_put old l1 l2 l3 l4 l5 l6 a b c d e f e1 e2 e3 e4 e5 e6 = two_put old l1 l6 a (b ++ (c ++ (d ++ (e ++ f)))) e1 (five_put l1 l2 l3 l4 l5 l6 b c d e f e2 e3 e4 e5 e6)
