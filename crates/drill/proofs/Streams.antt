-- Bytes that a writer took so far, and those that are left.
use Rattle.std.proofs.Common.{◌≡◌, ℕ, ◌+◌, ◌-◌, ◌≤◌, List, [], ◌++◌, Option, Some, None, length, take, drop, refl, sym, ap, subst, ◌∙◌, append_assoc, arith, length-drop}
use Rattle.std.proofs.Math.Seq.{take-add}
use Rattle.std.proofs.lemmas.List.{append-nil, drop-drop, take_all, take_rest}
use Rattle.std.specs.Io.KnownBytes.{Appends, Keeps}
use Rattle.drill.specs.Streams.{AppendsFrontOf}

appends-none : (old : Option (List ℕ)) → Appends old old []
appends-none None = tt
appends-none (Some xs) = sym (append-nil xs)

appends-more : (old mid new : Option (List ℕ)) (a b : List ℕ) → Appends old mid a → Appends mid new b → Appends old new (a ++ b)
appends-more None mid new a b first later = tt
appends-more (Some xs) None new a b first later = absurd first
appends-more (Some xs) (Some ys) None a b first later = absurd later
appends-more (Some xs) (Some ys) (Some zs) a b first later = later ∙ ap (λ (t : List ℕ). t ++ b) first ∙ append_assoc xs a b

appends-kept : (old mid new : Option (List ℕ)) (a : List ℕ) → Appends old mid a → Keeps mid new → Appends old new a
appends-kept None mid new a first kept = tt
appends-kept (Some xs) None new a first kept = absurd first
appends-kept (Some xs) (Some ys) None a first kept = absurd kept
appends-kept (Some xs) (Some ys) (Some zs) a first kept = kept ∙ first

-- so many of the bytes were written, and those behind them are left
pub record Wrote (bytes rest : List ℕ) (old new : Option (List ℕ)) : Type 0 where
  pub count : ℕ
  pub bound : count ≤ length bytes
  pub left : rest ≡ drop count bytes
  pub written : Appends old new (take count bytes)

pub Wrote-none : (bytes : List ℕ) (old : Option (List ℕ)) → Wrote bytes bytes old old
Wrote-none bytes old = record { count = 0; bound = omega arith; left = refl; written = appends-none old }

pub Wrote-more : (bytes rest : List ℕ) (old mid new : Option (List ℕ)) (n : ℕ) → Wrote bytes rest old mid → n ≤ length rest → Appends mid new (take n rest) → Wrote bytes (take (length rest - n) (drop n rest)) old new
Wrote-more bytes rest old mid new n wrote le more = record {
  count = wrote.count + n;
  bound = omega (arith, wrote.bound, le, ap length wrote.left, length-drop wrote.count bytes);
  left = take_rest rest n ∙ ap (drop n) wrote.left ∙ drop-drop n wrote.count bytes;
  written =
      subst (Appends old new) (sym (take-add wrote.count n bytes))
      (appends-more old mid new (take wrote.count bytes) (take n (drop wrote.count bytes)) wrote.written
      (subst (λ (t : List ℕ). Appends mid new (take n t)) wrote.left more));
}

-- nothing more was written
pub Wrote-front : (bytes rest : List ℕ) (old mid new : Option (List ℕ)) → Wrote bytes rest old mid → Keeps mid new → AppendsFrontOf old new bytes
Wrote-front bytes rest old mid new wrote kept = (wrote.count, wrote.bound, appends-kept old mid new (take wrote.count bytes) wrote.written kept)

-- nothing is left
pub Wrote-all : (bytes rest : List ℕ) (old new : Option (List ℕ)) → Wrote bytes rest old new → length rest ≡ 0 → Appends old new bytes
Wrote-all bytes rest old new wrote none =
    subst (Appends old new) (take_all wrote.count bytes (omega (arith, none, ap length wrote.left, length-drop wrote.count bytes))) wrote.written

pub Wrote-kept : (bytes rest : List ℕ) (old mid new : Option (List ℕ)) → Wrote bytes rest old mid → Keeps mid new → Wrote bytes rest old new
Wrote-kept bytes rest old mid new wrote kept = record {
  count = wrote.count;
  bound = wrote.bound;
  left = wrote.left;
  written = appends-kept old mid new (take wrote.count bytes) wrote.written kept;
}
