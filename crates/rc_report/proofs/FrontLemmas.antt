-- What of a report a sink has received.
use Rattle.std.proofs.Common.{◌≡◌, ℕ, ◌+◌, ◌<◌, ◌≤◌, suc, List, [], ◌++◌, length, take, drop, get_or, refl, sym, ap, ◌∙◌, arith, append_assoc, drop-cons, length-append}
use Rattle.std.proofs.Math.Seq.{take-append-add}
use Rattle.std.proofs.lemmas.List.{append-nil, length-take-le, take-append-drop, take-append-le}
use Rattle.std.proofs.lemmas.List.Concat.{flat_map-append}
use Rattle.std.specs.List.{flat_map}
use Rattle.std.specs.Prelude.{Bool, true, false, if◌then◌else◌}
use Rattle.std.proofs.lemmas.Bool.{true≢false}
use Rattle.rc_volume.specs.Streams.{AppendsFront}

-- a list in front of the element at a place, that element and what follows
flat_map_at : {X : Type 0} (f : X → List ℕ) (xs : List X) (i : ℕ) (d : X) → i < length xs → flat_map f xs ≡ flat_map f (take i xs) ++ (f (get_or xs i d) ++ flat_map f (drop (suc i) xs))
flat_map_at f xs i d l =
    ap (flat_map f) (sym (take-append-drop i xs)) ∙ flat_map-append f (take i xs) (drop i xs)
    ∙ ap (λ rest. flat_map f (take i xs) ++ flat_map f rest) (drop-cons xs i d l)

-- a front of the bytes that come next is a front of all
pub AppendsFront-next : (old front next rest all mid new : List ℕ) → mid ≡ old ++ front → all ≡ front ++ (next ++ rest) → AppendsFront mid next new → AppendsFront old all new
AppendsFront-next old front next rest all mid new e whole (n, le, is) = (
  length front + n,
  omega (arith, ap length whole, length-append front (next ++ rest), length-append next rest),
  is ∙ ap (λ (bs : List ℕ). bs ++ take n next) e ∙ append_assoc old front (take n next)
      ∙ ap (λ (bs : List ℕ). old ++ (front ++ bs)) (sym (take-append-le n next rest le))
      ∙ ap (λ (bs : List ℕ). old ++ bs) (sym (take-append-add front (next ++ rest) n))
      ∙ ap (λ (bs : List ℕ). old ++ take (length front + n) bs) (sym whole),
)

-- a front of the line at a place, behind the lines before it, is a front of all lines
pub AppendsFront-at : {X : Type 0} (line : X → List ℕ) (xs : List X) (i : ℕ) (x : X) (old mid new : List ℕ) → i < length xs → x ≡ get_or xs i x → mid ≡ old ++ flat_map line (take i xs) → AppendsFront mid (line x) new → AppendsFront old (flat_map line xs) new
AppendsFront-at line xs i x old mid new l at e fronts =
    let before = flat_map line (take i xs) in
    let after = flat_map line (drop (suc i) xs) in
    let lines : flat_map line xs ≡ before ++ (line x ++ after) = flat_map_at line xs i x l ∙ ap (λ y. before ++ (line y ++ after)) (sym at) in
    AppendsFront-next old before (line x) after (flat_map line xs) mid new e lines fronts

-- a front of what is behind all lines
pub AppendsFront-last : (old front next mid new : List ℕ) → mid ≡ old ++ front → AppendsFront mid next new → AppendsFront old (front ++ next) new
AppendsFront-last old front next mid new e fronts =
    AppendsFront-next old front next [] (front ++ next) mid new e (ap (λ (bs : List ℕ). front ++ bs) (sym (append-nil next))) fronts

-- nothing of what comes next
pub AppendsFront-none : (old bytes : List ℕ) → AppendsFront old bytes old
AppendsFront-none old bytes = (0, omega arith, sym (append-nil old))

-- so many bytes, and those behind them
take_both : (n m : ℕ) (text : List ℕ) → n ≤ length text → take (n + m) text ≡ take n text ++ take m (drop n text)
take_both n m text le =
    let front : length (take n text) ≡ n = length-take-le n text le in
    ap (λ (k : ℕ). take (k + m) text) (sym front) ∙ ap (take (length (take n text) + m)) (sym (take-append-drop n text))
    ∙ take-append-add (take n text) (drop n text) m

-- one more piece of a text
pub piece_sent : (text old mid new piece : List ℕ) (done len : ℕ) → done ≤ length text → mid ≡ old ++ take done text → piece ≡ take len (drop done text) → new ≡ mid ++ piece → new ≡ old ++ take (done + len) text
piece_sent text old mid new piece done len le before is more =
    more ∙ ap (λ (bs : List ℕ). bs ++ piece) before ∙ append_assoc old (take done text) piece
    ∙ ap (λ (bs : List ℕ). old ++ (take done text ++ bs)) is ∙ ap (λ (bs : List ℕ). old ++ bs) (sym (take_both done len text le))

-- a front of that piece
pub piece_front : (text old mid new piece : List ℕ) (done len : ℕ) → mid ≡ old ++ take done text → piece ≡ take len (drop done text) → AppendsFront mid piece new → AppendsFront old text new
piece_front text old mid new piece done len before is fronts =
    let rest = drop len (drop done text) in
    let whole : text ≡ take done text ++ (piece ++ rest) =
    sym (take-append-drop done text) ∙ ap (λ (bs : List ℕ). take done text ++ bs) (sym (take-append-drop len (drop done text)) ∙ ap (λ (bs : List ℕ). bs ++ rest) (sym is)) in
    AppendsFront-next old (take done text) piece rest text mid new before whole fronts

-- a front of the first part, and both parts
pub AppendsFront-first : (old first next new : List ℕ) → AppendsFront old first new → AppendsFront old (first ++ next) new
AppendsFront-first old first next new fronts =
    AppendsFront-next old [] first next (first ++ next) old new (sym (append-nil old)) refl fronts

pub both_sent : (old first next mid new : List ℕ) → mid ≡ old ++ first → new ≡ mid ++ next → new ≡ old ++ (first ++ next)
both_sent old first next mid new e f = f ∙ ap (λ (bs : List ℕ). bs ++ next) e ∙ append_assoc old first next

-- a part that is not left out
pub part_stands : (without : Bool) (part : List ℕ) → without ≡ false → part ≡ (if without then [] else part)
part_stands false part e = refl
part_stands true part e = absurd (true≢false e)
