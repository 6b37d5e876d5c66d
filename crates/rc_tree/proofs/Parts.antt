-- The parts of a text between its `\`, as bytes and as characters, and the first fault of parts.
use Rattle.std.proofs.Common.{◌≡◌, ℕ, ◌+◌, ◌<◌, Bool, true, false, None, Some, Option, List, [], ◌∷◌, ◌++◌, map, length, get_or, take, drop, chars, eqb, refl, sym, ap, ◌∙◌, subst, inl, inr, ◌⊎◌, arith, append-nil}
use Rattle.std.specs.List.{slice_split, onto_first, All}
use Rattle.std.specs.Str.{IsUtf8}
use Rattle.std.specs.Prelude.{if◌then◌else◌, nat_lt}
use Rattle.rc_tree.specs.declared.path.PathErr.TheVariants.{TooDeep}
use Rattle.std.proofs.Math.Utf8.{encode, encodes, scalar, scalars}
use Rattle.std.proofs.lemmas.Grind.{common_steps}
use Rattle.std.proofs.lemmas.Bool.{cases_eq, ne_eqb, and_parts, and_from}
use Rattle.std.proofs.lemmas.List.{map-append}
use Rattle.std.proofs.lemmas.List.Elements.{All-head, All-tail, All-from_get_or}
use Rattle.std.proofs.lemmas.List.Splits.{slice_split-cons_no, length-slice_split}
use Rattle.std.proofs.lemmas.Str.{chars-nil, chars-encodes, chars-append, encode_ascii, inside_one, scalars-chars, encodes-chars}
use Rattle.rc_tree.specs.declared.name.NameErr.{NameErr}
use Rattle.rc_tree.specs.declared.path.PathErr.{PathErr}
use Rattle.rc_tree.specs.Name.{name_fault}
use Rattle.rc_tree.specs.Path.{names_in, fault_at, parts_fault, path_fault}

-- bytes that end no part come before what follows in the first part
slice_split-past : (p : ℕ → Bool) (xs ys part : List ℕ) (parts : List (List ℕ)) → All (λ x. p x ≡ false) xs → slice_split p ys ≡ part ∷ parts → slice_split p (xs ++ ys) ≡ (xs ++ part) ∷ parts
slice_split-past p [] ys part parts h e = e
slice_split-past p (x ∷ xs) ys part parts h e =
    slice_split-cons_no p x (xs ++ ys) (All-head (λ y. p y ≡ false) x xs h)
    ∙ ap (onto_first x) (slice_split-past p xs ys part parts (All-tail (λ y. p y ≡ false) x xs h) e)

-- a character other than `\` has no byte that is one
encode-apart : (c : ℕ) → (c ≡ 92 → ⊥) → All (λ b. eqb b 92 ≡ false) (encode c)
encode-apart c ne =
    All-from_get_or (λ b. eqb b 92 ≡ false) (encode c) 0
    (λ i l. ne_eqb _ 92 (λ e. ne (inside_one c [] (encode c) i (sym (append-nil (encode c))) l (omega (arith, e)) ∙ e)))

-- the parts of one more character and what follows it
parts-more : (c : ℕ) (cs part : List ℕ) (parts : List (List ℕ)) → scalar c ≡ true → slice_split (λ b. eqb b 92) (encodes cs) ≡ part ∷ parts → (c ≡ 92) ⊎ (c ≡ 92 → ⊥) → map chars (part ∷ parts) ≡ slice_split (λ x. eqb x 92) cs → map chars (slice_split (λ b. eqb b 92) (encode c ++ encodes cs)) ≡ slice_split (λ x. eqb x 92) (c ∷ cs)
parts-more c cs part parts h e (inl is) ih =
    subst (λ x. map chars (slice_split (λ b. eqb b 92) (encode x ++ encodes cs)) ≡ slice_split (λ y. eqb y 92) (x ∷ cs)) (sym is)
    (ap (λ x. map chars (slice_split (λ b. eqb b 92) (x ++ encodes cs))) (encode_ascii 92 (omega arith))
    ∙ ap (λ x. x ∷ map chars (slice_split (λ b. eqb b 92) (encodes cs))) chars-nil
    ∙ ap (λ x. [] ∷ x) (ap (map chars) e ∙ ih))
parts-more c cs part parts h e (inr ne) ih =
    let one : scalars (c ∷ []) ≡ true = and_from _ _ h refl in
    let utf8 : IsUtf8 (encode c) = (c ∷ [], (one, append-nil (encode c))) in
    let is : chars (encode c) ≡ c ∷ [] = ap chars (sym (append-nil (encode c))) ∙ chars-encodes (c ∷ []) one in
    ap (map chars) (slice_split-past (λ b. eqb b 92) (encode c) (encodes cs) part parts (encode-apart c ne) e)
    ∙ ap (λ x. x ∷ map chars parts) (chars-append (encode c) part utf8 ∙ ap (λ x. x ++ chars part) is)
    ∙ ap (onto_first c) ih
    ∙ sym (slice_split-cons_no (λ x. eqb x 92) c cs (ne_eqb c 92 ne))

-- a list with an element has a first one
first-of : {X : Type 0} (xs : List X) (n : ℕ) → length xs ≡ n + 1 → (x : X) × (rest : List X) × (xs ≡ x ∷ rest)
first-of [] n e = absurd (omega arith)
first-of (x ∷ xs) n e = (x, xs, refl)

-- a text's parts, as characters, are the parts of its characters
map-chars-slice_split : (cs : List ℕ) → scalars cs ≡ true → map chars (slice_split (λ b. eqb b 92) (encodes cs)) ≡ slice_split (λ x. eqb x 92) cs
map-chars-slice_split [] h = ap (λ x. x ∷ []) chars-nil
map-chars-slice_split (c ∷ cs) h =
    let both = and_parts (scalar c) (scalars cs) h in
    let parts = first-of (slice_split (λ b. eqb b 92) (encodes cs)) _ (length-slice_split (λ b. eqb b 92) (encodes cs)) in
    parts-more c cs parts.0 parts.1 both.0 parts.2 (cases_eq c 92) (ap (map chars) (sym parts.2) ∙ map-chars-slice_split cs both.1)

-- the same of the parts of a text that has a character
names_in-encodes : (cs : List ℕ) → scalars cs ≡ true → 0 < length (encodes cs) → names_in cs ≡ map chars (slice_split (λ b. eqb b 92) (encodes cs))
names_in-encodes [] h l = absurd (omega arith)
names_in-encodes (c ∷ cs) h l = sym (map-chars-slice_split (c ∷ cs) h)

-- an empty text has no part
pub names_in-empty : (bs : List ℕ) → IsUtf8 bs → length bs ≡ 0 → names_in (chars bs) ≡ []
names_in-empty [] u l = ap names_in chars-nil
names_in-empty (b ∷ bs) u l = absurd (omega arith)

-- the names that a text with a character spells are its parts
pub names_in-parts : (bs : List ℕ) → IsUtf8 bs → 0 < length bs → names_in (chars bs) ≡ map chars (slice_split (λ b. eqb b 92) bs)
names_in-parts bs u l =
    let e = encodes-chars bs u in
    subst (λ xs. names_in (chars bs) ≡ map chars (slice_split (λ b. eqb b 92) xs)) e
    (names_in-encodes (chars bs) (scalars-chars bs u) (subst (λ xs. 0 < length xs) (sym e) l))

-- names without a fault, whatever follows them
abbrev pub AreNames : List (List ℕ) → Type 0
AreNames names = (later : List (List ℕ)) → path_fault (names ++ later) ≡ parts_fault (length names) later

-- a name that stands too deep is the answer, whatever follows
beyond : (b : Bool) (later : Option PathErr) (e : PathErr) → (if b then None else Some TooDeep) ≡ Some e → (if b then later else Some TooDeep) ≡ Some e
beyond true later e h = cc
beyond false later e h = h

-- a fault at a part is the answer, whatever follows
fault_at-some : (n : ℕ) (f : Option NameErr) (later : Option PathErr) (e : PathErr) → fault_at n f None ≡ Some e → fault_at n f later ≡ Some e
fault_at-some n (Some err) later e h = h
fault_at-some n None later e h = beyond (nat_lt n 64) later e h

-- the first part with a fault
pub path_fault-at : (names : List (List ℕ)) (part : List ℕ) (later : List (List ℕ)) (e : PathErr) → AreNames names → fault_at (length names) (name_fault part) None ≡ Some e → path_fault (names ++ part ∷ later) ≡ Some e
path_fault-at names part later e good h = good (part ∷ later) ∙ fault_at-some (length names) (name_fault part) (parts_fault (length names + 1) later) e h

-- names without a fault are a path
pub path_fault-names : (names : List (List ℕ)) → AreNames names → path_fault names ≡ None
path_fault-names names good = ap path_fault (sym (append-nil names)) ∙ good []

-- the first piece of a text that spells no name, after those that were seen
pub path_fault-turn : (pieces seen names : List (List ℕ)) (n : ℕ) (x : List ℕ) (e : PathErr) → names ≡ map chars seen → seen ≡ take n pieces → n < length pieces → x ≡ get_or pieces n x → AreNames names → fault_at (length names) (name_fault (chars x)) None ≡ Some e → path_fault (map chars pieces) ≡ Some e
path_fault-turn pieces seen names n x e is front within here good h =
    let cut : pieces ≡ seen ++ x ∷ drop (n + 1) pieces = grind (arith, common_steps) in
    let all : map chars pieces ≡ names ++ chars x ∷ map chars (drop (n + 1) pieces) = ap (map chars) cut ∙ map-append chars seen (x ∷ drop (n + 1) pieces) ∙ ap (λ ns. ns ++ chars x ∷ map chars (drop (n + 1) pieces)) (sym is) in
    ap path_fault all ∙ path_fault-at names (chars x) (map chars (drop (n + 1) pieces)) e good h
