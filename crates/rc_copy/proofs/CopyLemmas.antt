-- How a file fills up while it is copied piece by piece.
use Rattle.std.proofs.Common.{◌≡◌, ℕ, ◌+◌, ◌≤◌, List, [], ◌∷◌, ◌++◌, Option, Some, None, length, take, drop, refl, sym, ap, subst, ◌∙◌, arith, length-append, length-drop}
use Rattle.std.proofs.lemmas.List.{length-take, length-take-le, drop-drop, append-nil}
use Rattle.std.proofs.Math.Seq.{take-append_seam, drop-append-add, take-add}
use Rattle.std.specs.Prelude.{IsSomeAnd, option_map}
use Rattle.rc_tree.specs.declared.attr.Kind.TheVariants.{File}
use Rattle.rc_tree.specs.Tree.{Node}
use Rattle.rc_volume.specs.Reading.{part_of}
use Rattle.rc_volume.specs.Site.{Turns, written_at}
use Rattle.rc_copy.specs.Copying.{IsRefilled}

-- so many of the bytes have been put, and the others are as they were
pub record IsFilled (bytes : List ℕ) (size off : ℕ) (old now : Option Node) : Type 0 where
  pub node : Node
  pub was : old ≡ Some node
  pub is_file : node.kind ≡ File
  pub has_size : length node.bytes ≡ size
  pub is : now ≡ Some (record node { bytes = take off bytes ++ drop off node.bytes })
  pub whole : off ≤ length bytes

-- a write behind what is there already
written_behind : (front piece rest : List ℕ) (off : ℕ) → length front ≡ off → take off (front ++ rest) ++ piece ++ drop (off + length piece) (front ++ rest) ≡ front ++ piece ++ drop (length piece) rest
written_behind front piece rest off e =
    subst (λ (k : ℕ). take k (front ++ rest) ++ piece ++ drop (k + length piece) (front ++ rest) ≡ front ++ piece ++ drop (length piece) rest) e
    (rw (take-append_seam front rest, drop-append-add front rest (length piece)) refl)

filled_more : (bytes old : List ℕ) (off n : ℕ) → off ≤ length bytes → length (part_of off n bytes) ≡ n → take off (take off bytes ++ drop off old) ++ part_of off n bytes ++ drop (off + length (part_of off n bytes)) (take off bytes ++ drop off old) ≡ take (off + n) bytes ++ drop (off + n) old
filled_more bytes old off n le whole =
    written_behind (take off bytes) (part_of off n bytes) (drop off old) off (length-take-le off bytes le)
    ∙ ap (λ (rest : List ℕ). take off bytes ++ part_of off n bytes ++ rest) (ap (λ (k : ℕ). drop k (drop off old)) whole ∙ drop-drop n off old)
    ∙ ap (λ (front : List ℕ). front ++ drop (off + n) old) (sym (take-add off n bytes))

pub IsFilled-none : (bytes : List ℕ) (size : ℕ) (o : Option Node) → IsSomeAnd o (λ node. (node.kind ≡ File) × (length node.bytes ≡ size)) → IsFilled bytes size 0 o o
IsFilled-none bytes size None h = absurd h
IsFilled-none bytes size (Some node) h = record {
  node = node;
  was = refl;
  is_file = h.0;
  has_size = h.1;
  is = refl;
  whole = omega arith;
}

pub IsFilled-more : (bytes : List ℕ) (size off n : ℕ) (old mid new : Option Node) → IsFilled bytes size off old mid → length (part_of off n bytes) ≡ n → new ≡ option_map (written_at off (part_of off n bytes)) mid → IsFilled bytes size (off + n) old new
IsFilled-more bytes size off n old mid new f whole becomes = record {
  node = f.node;
  was = f.was;
  is_file = f.is_file;
  has_size = f.has_size;
  is =
      becomes ∙ ap (λ (o : Option Node). option_map (written_at off (part_of off n bytes)) o) f.is
      ∙ ap (λ (bs : List ℕ). Some (record f.node { bytes = bs })) (filled_more bytes f.node.bytes off n f.whole whole);
  whole = omega (arith, length-take n (drop off bytes), length-drop off bytes, whole, f.whole);
}

drop_all : (bytes : List ℕ) (size : ℕ) → length bytes ≡ size → drop size bytes ≡ []
drop_all bytes size e = nothing_left (drop size bytes) (omega (arith, length-drop size bytes, e))
  where
    nothing_left : (xs : List ℕ) → length xs ≤ 0 → xs ≡ []
    nothing_left [] l = refl
    nothing_left (x ∷ xs) l = absurd (omega (arith, l))

-- all of them
pub IsFilled-all : (bytes : List ℕ) (size : ℕ) (old new : Option Node) → IsFilled bytes size size old new → new ≡ option_map (λ (node : Node). record node { bytes = part_of 0 size bytes }) old
IsFilled-all bytes size old new f =
    f.is
    ∙ ap (λ (bs : List ℕ). Some (record f.node { bytes = bs })) (ap (λ (rest : List ℕ). take size bytes ++ rest) (drop_all f.node.bytes size f.has_size) ∙ append-nil (take size bytes))
    ∙ ap (λ (o : Option Node). option_map (λ (node : Node). record node { bytes = part_of 0 size bytes }) o) (sym f.was)

long_enough : (bytes : List ℕ) (size off : ℕ) (node : Node) → length node.bytes ≡ size → off ≤ length bytes → off ≤ size → length (take off bytes ++ drop off node.bytes) ≡ size
long_enough bytes size off node has_size whole fits =
    omega (arith, length-append (take off bytes) (drop off node.bytes), length-take-le off bytes whole, length-drop off node.bytes, has_size)

pub IsFilled-file : (bytes : List ℕ) (size off n : ℕ) (old new : Option Node) → IsFilled bytes size off old new → off + n ≤ size → IsSomeAnd new (λ node. (node.kind ≡ File) × (off + n ≤ length node.bytes))
IsFilled-file bytes size off n old new f fits =
    let long = long_enough bytes size off f.node f.has_size f.whole (omega arith) in
    subst (λ (o : Option Node). IsSomeAnd o (λ node. (node.kind ≡ File) × (off + n ≤ length node.bytes))) (sym f.is) (f.is_file, omega (arith, long))

-- a piece that is put badly leaves other bytes, and no more of them
pub IsFilled-torn : (bytes : List ℕ) (size off : ℕ) (old mid new : Option Node) → IsFilled bytes size off old mid → off ≤ size → Turns (IsRefilled 0) mid new → Turns (IsRefilled size) old new
IsFilled-torn bytes size off old mid new f fits t =
    let filled = record f.node { bytes = take off bytes ++ drop off f.node.bytes } in
    let same : t.before ≡ filled = same_some t.before filled (sym t.was ∙ f.is) in
    let long = long_enough bytes size off f.node f.has_size f.whole fits in
    let len : length t.before.bytes ≡ size = ap (λ (n : Node). length n.bytes) same ∙ long in
    record {
      before = f.node;
      now = t.now;
      was = f.was;
      is = t.is;
      by = record {
        rest = t.by.rest ∙ ap (λ (n : Node). record n { bytes = t.now.bytes }) same;
        no_longer = omega (arith, t.by.no_longer, len, f.has_size);
      };
    }
  where
    same_some : (x y : Node) → Some x ≡ Some y → x ≡ y
    same_some x y e = cc
