-- How long texts, names and paths are, and what their types say of them.
use Rattle.std.proofs.Common.{◌≡◌, ℕ, ◌+◌, ◌*◌, ◌≤◌, Bool, true, false, cond, ltb, List, [], ◌∷◌, ◌++◌, length, Option, Some, None, refl, sym, ap, subst, ◌∙◌, append-nil, length-append, arith, lt-ltb}
use Rattle.std.specs.Prelude.{chars, encode_utf8_all, All, IsUtf8}
use Rattle.std.specs.List.{flat_map, join_with_byte}
use Rattle.std.specs.Str.{all_scalars}
use Rattle.std.proofs.lemmas.Bool.{and_parts, and_from, ltb-false}
use Rattle.std.proofs.lemmas.List.Concat.{flat_map-cons}
use Rattle.std.proofs.lemmas.List.Elements.{All-head, All-tail}
use Rattle.std.proofs.lemmas.Str.{encode_ascii, encodes-append, encodes-chars, scalars-chars}
use lib.Utf8.{encode, scalar}
use Rattle.rc_tree.specs.Name.{name_fault}
use Rattle.rc_tree.specs.Path.{parts_fault}
use Rattle.rc_tree.specs.declared.name.NameErr.TheVariants.{Empty, TooLong}
use Rattle.rc_record.specs.Spelling.{path_bytes, IsPathTyped}

-- a text is the spelling of its characters
pub spelled : (bytes cs : List ℕ) → IsUtf8 bytes → chars bytes ≡ cs → bytes ≡ encode_utf8_all cs
spelled bytes cs utf8 is = sym (encodes-chars bytes utf8) ∙ ap encode_utf8_all is

pub are_characters : (bytes cs : List ℕ) → IsUtf8 bytes → chars bytes ≡ cs → all_scalars cs ≡ true
are_characters bytes cs utf8 is = subst (λ (t : List ℕ). all_scalars t ≡ true) is (scalars-chars bytes utf8)

-- Names

four : (p q r : Bool) (a b c d : List ℕ) → length a ≤ 4 → length b ≤ 4 → length c ≤ 4 → length d ≤ 4 → length (cond p a (cond q b (cond r c d))) ≤ 4
four true q r a b c d la lb lc ld = la
four false true r a b c d la lb lc ld = lb
four false false true a b c d la lb lc ld = lc
four false false false a b c d la lb lc ld = ld

char_len : (c : ℕ) → length (encode c) ≤ 4
unfolding encode
char_len c = four (ltb c 128) (ltb c 2048) (ltb c 65536) _ _ _ _ (omega arith) (omega arith) (omega arith) (omega arith)

chars_len : (cs : List ℕ) → length (encode_utf8_all cs) ≤ 4 * length cs
chars_len [] = omega arith
chars_len (c ∷ cs) = omega (arith, length-append (encode c) (encode_utf8_all cs), char_len c, chars_len cs)

not_first : {A : Type 0} (b : Bool) (x : A) (o : Option A) → cond b (Some x) o ≡ None → (b ≡ false) × (o ≡ None)
not_first true x o e = absurd cc
not_first false x o e = (refl, e)

pub name_short : (name : List ℕ) → name_fault name ≡ None → length (encode_utf8_all name) ≤ 1020
name_short name named =
    let some = not_first _ Empty _ named in
    let short = not_first (ltb 255 (length name)) TooLong _ some.1 in
    omega (arith, ltb-false 255 (length name) short.0, chars_len name)

-- Paths

-- a name behind a `\`
abbrev pub behind_end : List ℕ → List ℕ
behind_end name = 92 ∷ encode_utf8_all name

-- a path's first name and those behind it
pub path_below : (first : List ℕ) (rest : List (List ℕ)) → path_bytes (first ∷ rest) ≡ encode_utf8_all first ++ flat_map behind_end rest
path_below first [] = sym (append-nil (encode_utf8_all first))
path_below first (next ∷ rest) =
    encodes-append first (92 ∷ join_with_byte 92 (next ∷ rest))
    ∙ ap (λ (t : List ℕ). encode_utf8_all first ++ (t ++ path_bytes (next ∷ rest))) (encode_ascii 92 (omega arith))
    ∙ ap (λ (t : List ℕ). encode_utf8_all first ++ 92 ∷ t) (path_below next rest)
    ∙ ap (λ (t : List ℕ). encode_utf8_all first ++ t) (sym (flat_map-cons behind_end next rest))

scalars-append : (a b : List ℕ) → all_scalars a ≡ true → all_scalars b ≡ true → all_scalars (a ++ b) ≡ true
scalars-append [] b p q = q
scalars-append (c ∷ a) b p q = let both = and_parts (scalar c) (all_scalars a) p in and_from (scalar c) (all_scalars (a ++ b)) both.0 (scalars-append a b both.1 q)

abbrev AreCharacters : List ℕ → Type 0
AreCharacters name = all_scalars name ≡ true

joined_scalars : (path : List (List ℕ)) → All AreCharacters path → all_scalars (join_with_byte 92 path) ≡ true
joined_scalars [] h = refl
joined_scalars (name ∷ []) h = All-head AreCharacters name [] h
joined_scalars (name ∷ next ∷ path) h =
    scalars-append name (92 ∷ join_with_byte 92 (next ∷ path)) (All-head AreCharacters name (next ∷ path) h) (joined_scalars (next ∷ path) (All-tail AreCharacters name (next ∷ path) h))

abbrev IsNamed : List ℕ → Type 0
IsNamed name = name_fault name ≡ None

named_to : (n : ℕ) (parts : List (List ℕ)) → All IsNamed parts → n + length parts ≤ 64 → parts_fault n parts ≡ None
named_to n [] named le = refl
named_to n (part ∷ parts) named le =
    rw (All-head IsNamed part parts named, lt-ltb n 64 (omega (arith, le))) (named_to (n + 1) parts (All-tail IsNamed part parts named) (omega (arith, le)))

pub path_typed : (path : List (List ℕ)) → All IsNamed path → All AreCharacters path → length path ≤ 64 → length (path_bytes path) ≤ 65535 → IsPathTyped path
path_typed path named characters le short = record {
  named = named_to 0 path named (omega (arith, le));
  characters = joined_scalars path characters;
  len = omega (arith, short);
}
