-- When a file still has the source's bytes in a range: after bytes are put elsewhere, and after its length is set.
use Rattle.std.proofs.Common.{◌≡◌, ℕ, zero, suc, ◌+◌, ◌-◌, ◌<◌, ◌≤◌, min, List, [], ◌∷◌, ◌++◌, length, take, drop, replicate, refl, sym, ap, subst, ◌∙◌, ◌⊎◌, inl, inr, arith, length-append, length-take, length-drop}
use Rattle.std.proofs.lemmas.Bool.{cases_lt}
use Rattle.std.proofs.lemmas.List.{take_all}
use Rattle.std.specs.Prelude.{Option, Some, None, slice_get}
use Rattle.rc_tree.specs.Tree.{Node}
use Rattle.rc_class.specs.Units.{Range}
use Rattle.rc_volume.specs.Reading.{part_of}
use Rattle.rc_volume.specs.Site.{IsHalfResized, IsTorn, resized, written_at}
use Rattle.rc_core.specs.Copies.{HasBytes, Holds}

-- Places in lists

get_take : {A : Type 0} (n i : ℕ) (xs : List A) → i < n → slice_get (take n xs) i ≡ slice_get xs i
get_take zero i xs below = absurd (omega (arith, below))
get_take (suc n) i [] below = refl
get_take (suc n) zero (x ∷ xs) below = refl
get_take (suc n) (suc i) (x ∷ xs) below = get_take n i xs (omega (arith, below))

get_drop : {A : Type 0} (n i : ℕ) (xs : List A) → slice_get (drop n xs) i ≡ slice_get xs (n + i)
get_drop zero i xs = let same : i ≡ 0 + i = omega arith in ap (slice_get xs) same
get_drop (suc n) i [] = refl
get_drop (suc n) i (x ∷ xs) = let later : suc (n + i) ≡ suc n + i = omega arith in get_drop n i xs ∙ ap (slice_get (x ∷ xs)) later

get_left : {A : Type 0} (xs ys : List A) (i : ℕ) → i < length xs → slice_get (xs ++ ys) i ≡ slice_get xs i
get_left [] ys i below = absurd (omega (arith, below))
get_left (x ∷ xs) ys zero below = refl
get_left (x ∷ xs) ys (suc i) below = get_left xs ys i (omega (arith, below))

get_right : {A : Type 0} (xs ys : List A) (n i : ℕ) → n ≡ length xs → slice_get (xs ++ ys) (n + i) ≡ slice_get ys i
get_right [] ys n i at = let same : n + i ≡ i = omega (arith, at) in ap (slice_get ys) same
get_right (x ∷ xs) ys n i at =
    let later : n + i ≡ suc (length xs + i) = omega (arith, at) in
    ap (slice_get (x ∷ xs ++ ys)) later ∙ get_right xs ys (length xs) i refl

-- Changes in a range

-- all outside of a range is as it was
pub record IsSameOutside (off len : ℕ) (old new : Node) : Type 0 where
  pub kind : new.kind ≡ old.kind
  pub size : length new.bytes ≡ length old.bytes
  pub before : (i : ℕ) → i < off → slice_get new.bytes i ≡ slice_get old.bytes i
  pub behind : (i : ℕ) → off + len ≤ i → slice_get new.bytes i ≡ slice_get old.bytes i

pub torn : (off len : ℕ) (old new : Node) → IsTorn off len old new → IsSameOutside off len old new
torn off len old new is = record {
  kind = ap (λ (n : Node). n.kind) is.rest;
  size = is.size;
  before = λ i below. sym (get_take off i new.bytes below) ∙ ap (λ (bs : List ℕ). slice_get bs i) is.before ∙ get_take off i old.bytes below;
  behind = λ i past.
      let at : i ≡ (off + len) + (i - (off + len)) = omega (arith, past) in
      ap (slice_get new.bytes) at
      ∙ sym (get_drop (off + len) (i - (off + len)) new.bytes)
      ∙ ap (λ (bs : List ℕ). slice_get bs (i - (off + len))) is.after
      ∙ get_drop (off + len) (i - (off + len)) old.bytes
      ∙ ap (slice_get old.bytes) (sym at);
}

module _ (off : ℕ) (bytes old : List ℕ) (inside : off + length bytes ≤ length old) where
  taken : length (take off old) ≡ off
  taken = omega (arith, length-take off old, inside)

  pub written_size : length (take off old ++ bytes ++ drop (off + length bytes) old) ≡ length old
  written_size = omega (arith, length-append (take off old ++ bytes) (drop (off + length bytes) old), length-append (take off old) bytes, length-take off old, length-drop (off + length bytes) old, inside)

  pub written_before : (i : ℕ) → i < off → slice_get (take off old ++ bytes ++ drop (off + length bytes) old) i ≡ slice_get old i
  written_before i below =
      get_left (take off old ++ bytes) (drop (off + length bytes) old) i (omega (arith, below, length-append (take off old) bytes, taken))
      ∙ get_left (take off old) bytes i (omega (arith, below, taken))
      ∙ get_take off i old below

  pub written_here : (i : ℕ) → i < length bytes → slice_get (take off old ++ bytes ++ drop (off + length bytes) old) (off + i) ≡ slice_get bytes i
  written_here i below =
      get_left (take off old ++ bytes) (drop (off + length bytes) old) (off + i) (omega (arith, below, length-append (take off old) bytes, taken))
      ∙ get_right (take off old) bytes off i (sym taken)

  pub written_behind : (i : ℕ) → off + length bytes ≤ i → slice_get (take off old ++ bytes ++ drop (off + length bytes) old) i ≡ slice_get old i
  written_behind i past =
      let at : i ≡ (off + length bytes) + (i - (off + length bytes)) = omega (arith, past) in
      let long : off + length bytes ≡ length (take off old ++ bytes) = omega (arith, length-append (take off old) bytes, taken) in
      ap (slice_get (take off old ++ bytes ++ drop (off + length bytes) old)) at
      ∙ get_right (take off old ++ bytes) (drop (off + length bytes) old) (off + length bytes) (i - (off + length bytes)) long
      ∙ get_drop (off + length bytes) (i - (off + length bytes)) old
      ∙ ap (slice_get old) (sym at)

pub written : (off : ℕ) (bytes : List ℕ) (old : Node) → off + length bytes ≤ length old.bytes → IsSameOutside off (length bytes) old (written_at off bytes old)
written off bytes old inside = record {
  kind = refl;
  size = written_size off bytes old.bytes inside;
  before = written_before off bytes old.bytes inside;
  behind = written_behind off bytes old.bytes inside;
}

pub kept_outside : (off len from count : ℕ) (source : List ℕ) (old new : Node) → (off + len ≤ from) ⊎ (from + count ≤ off) → IsSameOutside from count old new → HasBytes off len source old → HasBytes off len source new
kept_outside off len from count source old new apart same has = record {
  is_file = same.kind ∙ has.is_file;
  size = same.size ∙ has.size;
  bytes = λ i low high. one_byte i low high apart ∙ has.bytes i low high;
}
  where
    one_byte : (i : ℕ) → off ≤ i → i < off + len → (off + len ≤ from) ⊎ (from + count ≤ off) → slice_get new.bytes i ≡ slice_get old.bytes i
    one_byte i low high (inl before) = same.before i (omega (arith, high, before))
    one_byte i low high (inr behind) = same.behind i (omega (arith, low, behind))

-- the same of what may be absent

pub holds_outside : (range : Range) (from count : ℕ) (source : Option Node) (old new : Node) → (range.off + range.len ≤ from) ⊎ (from + count ≤ range.off) → IsSameOutside from count old new → Holds range source (Some old) → Holds range source (Some new)
holds_outside range from count None old new apart same holds = holds
holds_outside range from count (Some source) old new apart same holds = kept_outside range.off range.len from count source.bytes old new apart same holds

-- a piece of the source that is put behind a front
pub holds_more : (off put : ℕ) (bytes : List ℕ) (source old : Node) → bytes ≡ part_of (off + put) (length bytes) source.bytes → (off + put) + length bytes ≤ length old.bytes → HasBytes off put source.bytes old → HasBytes off (put + length bytes) source.bytes (written_at (off + put) bytes old)
holds_more off put bytes source old piece inside has = record {
  is_file = has.is_file;
  size = written_size (off + put) bytes old.bytes inside ∙ has.size;
  bytes = λ i low high. elim (cases_lt i (off + put)) [
    | inl front ↦ written_before (off + put) bytes old.bytes inside i front ∙ has.bytes i low front
    | inr behind ↦
        let k : i ≡ (off + put) + (i - (off + put)) = omega (arith, behind) in
        let short : i - (off + put) < length bytes = omega (arith, behind, high) in
        ap (slice_get (take (off + put) old.bytes ++ bytes ++ drop ((off + put) + length bytes) old.bytes)) k
        ∙ written_here (off + put) bytes old.bytes inside (i - (off + put)) short
        ∙ ap (λ (bs : List ℕ). slice_get bs (i - (off + put))) piece
        ∙ get_take (length bytes) (i - (off + put)) (drop (off + put) source.bytes) short
        ∙ get_drop (off + put) (i - (off + put)) source.bytes
        ∙ ap (slice_get source.bytes) (sym k)
  ];
}

-- Lengths

append_nothing : {A : Type 0} (xs : List A) → xs ++ [] ≡ xs
append_nothing [] = refl
append_nothing (x ∷ xs) = ap (λ rest. x ∷ rest) (append_nothing xs)

same_resized : (size : ℕ) (bytes : List ℕ) → length bytes ≡ size → take size bytes ++ replicate (size - length bytes) 0 ≡ bytes
same_resized size bytes at =
    let none : size - length bytes ≡ 0 = omega (arith, at) in
    ap (λ n. take size bytes ++ replicate n 0) none ∙ append_nothing (take size bytes) ∙ ap (λ n. take n bytes) (sym at) ∙ take_all (length bytes) bytes (omega arith)

-- a file at its length stays when the length is set
pub resized_same : (size : ℕ) (node : Node) → length node.bytes ≡ size → resized size node ≡ node
resized_same size node at = ap (λ (bytes : List ℕ). record node { bytes = bytes }) (same_resized size node.bytes at)

pub half_resized_same : (size : ℕ) (old new : Node) → IsHalfResized size old new → length old.bytes ≡ size → new ≡ old
half_resized_same size old new half at =
    let least : min (length old.bytes) size ≡ length old.bytes = omega (arith, at) in
    let low = half.no_shorter in
    let high = half.no_longer in
    let long : length new.bytes ≡ length old.bytes = omega (arith, at, low, high) in
    let same : take (length old.bytes) new.bytes ≡ take (length old.bytes) old.bytes = subst (λ n. take n new.bytes ≡ take n old.bytes) least half.front in
    let bytes : new.bytes ≡ old.bytes =
    sym (take_all (length old.bytes) new.bytes (omega (arith, long))) ∙ same ∙ take_all (length old.bytes) old.bytes (omega arith) in
    half.rest ∙ ap (λ (bs : List ℕ). record old { bytes = bs }) bytes
