-- What is written behind what stands there.
use Rattle.std.proofs.Common.{◌≡◌, ℕ, ◌+◌, ◌<◌, Bool, true, false, cond, eqb, List, [], ◌∷◌, ◌++◌, length, get_or, take, Result, Ok, Err, refl, sym, ap, ◌∙◌, append_assoc, arith}
use Rattle.std.specs.Prelude.{OnOk, codes}
use Rattle.std.proofs.lemmas.Bool.{eqb-true, eqb-false}
use Rattle.std.proofs.lemmas.List.{append-nil, flat_map_more, length-append, take_more}
use Rattle.std.proofs.lemmas.List.Concat.{flat_map-cons}
use Rattle.std.proofs.lemmas.Str.{encode_ascii, encodes-append}
use Rattle.std.specs.Fmt.{decimal}
use Rattle.std.specs.List.{flat_map, join_with_byte}
use Rattle.std.specs.Str.{encode_utf8_all}
use Rattle.rc_tree.specs.Tree.{Node}
use Rattle.hex.specs.Hex.{encode_lower, encode_with}
use Rattle.rc_sitetext.specs.SiteText.{JobText, attr_text, entry_line, hex_text, job_line, kind_text, marked, or_dash, path_text, props_fields}
use Rattle.rc_sitetext.specs.Writing.{last_text}
use Rattle.rc_sitetext.proofs.LineTexts.{line_is}

-- a fact under Ok that follows from another
pub ok_then : {T E P Q : Type 0} (r : Result T E) → (P → Q) → OnOk r P → OnOk r Q
ok_then (Ok x) f p = f p
ok_then (Err e) f p = tt

pub marked_more : (old mid end : List ℕ) (c : ℕ) (cs : List ℕ) (b : Bool) (bs : List Bool) → mid ≡ old ++ cond b (c ∷ []) [] → end ≡ mid ++ marked cs bs → end ≡ old ++ marked (c ∷ cs) (b ∷ bs)
unfolding marked
marked_more old mid end c cs true bs e f = f ∙ ap (λ (t : List ℕ). t ++ marked cs bs) e ∙ append_assoc old (c ∷ []) (marked cs bs)
marked_more old mid end c cs false bs e f = f ∙ ap (λ (t : List ℕ). t ++ marked cs bs) (e ∙ append-nil old)

pub marked_end : (old end : List ℕ) (c : ℕ) (b : Bool) → end ≡ old ++ cond b (c ∷ []) [] → end ≡ old ++ marked (c ∷ []) (b ∷ [])
unfolding marked
marked_end old end c true e = e
marked_end old end c false e = e

pub or_dash_some : (text : List ℕ) → 0 < length text → or_dash text ≡ text
or_dash_some [] some = absurd (omega arith)
or_dash_some (c ∷ text) some = refl

pub or_dash_none : (text : List ℕ) → length text ≡ 0 → or_dash text ≡ 45 ∷ []
or_dash_none [] none = refl
or_dash_none (c ∷ text) none = absurd (omega arith)

pub hex_none : (bytes : List ℕ) → eqb (length bytes) 0 ≡ true → hex_text bytes ≡ 45 ∷ []
unfolding encode_with
hex_none [] none = refl
hex_none (b ∷ bytes) none = absurd (omega (arith, eqb-true (length (b ∷ bytes)) 0 none))

pub hex_some : (bytes : List ℕ) → eqb (length bytes) 0 ≡ false → hex_text bytes ≡ encode_lower bytes
unfolding encode_with
hex_some [] some = absurd (eqb-false 0 0 some refl)
hex_some (b ∷ bytes) some = refl

nothing : (text : List ℕ) → length text ≡ 0 → text ≡ []
nothing [] none = refl
nothing (c ∷ text) none = absurd (omega arith)

-- the letters of attributes that were written, or `-`
pub attr_put : (old now text : List ℕ) → now ≡ old ++ text → eqb (length now) (length old) ≡ false → now ≡ old ++ or_dash text
attr_put old now text e longer =
    let ne = eqb-false (length now) (length old) longer in
    let some : 0 < length text = omega (arith, ap length e, length-append old text, ne) in
    e ∙ ap (λ (t : List ℕ). old ++ t) (sym (or_dash_some text some))

pub attr_dash : (old now text : List ℕ) → now ≡ old ++ text → eqb (length now) (length old) ≡ true → now ++ 45 ∷ [] ≡ old ++ or_dash text
attr_dash old now text e same =
    let none : length text ≡ 0 = omega (arith, ap length e, length-append old text, eqb-true (length now) (length old) same) in
    ap (λ (t : List ℕ). t ++ 45 ∷ []) (e ∙ ap (λ (t : List ℕ). old ++ t) (nothing text none) ∙ append-nil old) ∙ ap (λ (t : List ℕ). old ++ t) (sym (or_dash_none text none))

-- one more item's piece behind those of the items before it
pub pieces_more : {X : Type 0} (piece : X → List ℕ) (xs : List X) (i : ℕ) (x : X) (old mid new : List ℕ) → i < length xs → x ≡ get_or xs i x → mid ≡ old ++ flat_map piece (take i xs) → new ≡ mid ++ piece x → new ≡ old ++ flat_map piece (take (i + 1) xs)
pieces_more piece xs i x old mid new l at e f =
    f ∙ ap (λ (bs : List ℕ). bs ++ piece x) e ∙ flat_map_more piece old (take i xs) x
    ∙ ap (λ ys. old ++ flat_map piece ys) (ap (λ y. take i xs ++ y ∷ []) at ∙ sym (take_more xs i x l))

-- a path's first name and those behind it
pub path_below : (first : List ℕ) (rest : List (List ℕ)) → path_text (first ∷ rest) ≡ encode_utf8_all first ++ flat_map (λ (next : List ℕ). 92 ∷ encode_utf8_all next) rest
path_below first [] = sym (append-nil (encode_utf8_all first))
path_below first (next ∷ rest) =
    encodes-append first (92 ∷ join_with_byte 92 (next ∷ rest))
    ∙ ap (λ (t : List ℕ). encode_utf8_all first ++ (t ++ path_text (next ∷ rest))) (encode_ascii 92 (omega arith))
    ∙ ap (λ (t : List ℕ). encode_utf8_all first ++ 92 ∷ t) (path_below next rest)
    ∙ ap (λ (t : List ℕ). encode_utf8_all first ++ t) (sym (flat_map-cons (λ (name : List ℕ). 92 ∷ encode_utf8_all name) next rest))

pub behind : (old a b l m : List ℕ) → l ≡ old ++ a → m ≡ l ++ b → m ≡ old ++ (a ++ b)
behind old a b l m e f = f ∙ ap (λ (t : List ℕ). t ++ b) e ∙ append_assoc old a b

pub props_put : (old l1 l2 l3 l4 l5 l6 l7 attr created written access owner audit : List ℕ) → l1 ≡ old ++ attr → l2 ≡ l1 ++ 9 ∷ (created ++ 9 ∷ (written ++ 9 ∷ []))
    → l3 ≡ l2 ++ access → l4 ≡ l3 ++ 9 ∷ [] → l5 ≡ l4 ++ owner → l6 ≡ l5 ++ 9 ∷ [] → l7 ≡ l6 ++ audit
    → l7 ≡ old ++ (attr ++ 9 ∷ (created ++ 9 ∷ (written ++ 9 ∷ (access ++ 9 ∷ (owner ++ 9 ∷ audit)))))
props_put old l1 l2 l3 l4 l5 l6 l7 attr created written access owner audit e1 e2 e3 e4 e5 e6 e7 =
    e7 ∙ ap (λ (t : List ℕ). t ++ audit) (e6 ∙ ap (λ (t : List ℕ). t ++ 9 ∷ []) (e5 ∙ ap (λ (t : List ℕ). t ++ owner) (e4 ∙ ap (λ (t : List ℕ). t ++ 9 ∷ []) (e3 ∙ ap (λ (t : List ℕ). t ++ access) (e2 ∙ ap (λ (t : List ℕ). t ++ 9 ∷ (created ++ 9 ∷ (written ++ 9 ∷ []))) e1)))))
    ∙ simp append_assoc

-- what is written of an entry, one after the other
pieces : (old letter path attr created written access owner audit last : List ℕ) → (((((old ++ (letter ++ 9 ∷ [])) ++ path) ++ 9 ∷ []) ++ (attr ++ 9 ∷ (created ++ 9 ∷ (written ++ 9 ∷ (access ++ 9 ∷ (owner ++ 9 ∷ audit)))))) ++ last) ++ 10 ∷ []
    ≡ old ++ ((letter ++ 9 ∷ (path ++ 9 ∷ (attr ++ 9 ∷ (created ++ 9 ∷ (written ++ 9 ∷ (access ++ 9 ∷ (owner ++ 9 ∷ (audit ++ last)))))))) ++ 10 ∷ [])
pieces old letter path attr created written access owner audit last = simp append_assoc

pub entry_put : (old l1 l2 l3 l4 l5 l6 : List ℕ) (path : List (List ℕ)) (node : Node) → l1 ≡ old ++ (kind_text node.kind ++ 9 ∷ []) → l2 ≡ l1 ++ path_text path → l3 ≡ l2 ++ 9 ∷ []
    → l4 ≡ l3 ++ join_with_byte 9 (props_fields node.props) → l5 ≡ l4 ++ last_text node.kind node.bytes → l6 ≡ l5 ++ 10 ∷ [] → l6 ≡ old ++ entry_line path node
entry_put old l1 l2 l3 l4 l5 l6 path node e1 e2 e3 e4 e5 e6 =
    let p = node.props in
    e6 ∙ ap (λ (t : List ℕ). t ++ 10 ∷ []) (e5 ∙ ap (λ (t : List ℕ). t ++ last_text node.kind node.bytes) (e4 ∙ ap (λ (t : List ℕ). t ++ join_with_byte 9 (props_fields p)) (e3 ∙ ap (λ (t : List ℕ). t ++ 9 ∷ []) (e2 ∙ ap (λ (t : List ℕ). t ++ path_text path) e1))))
    ∙ pieces old (kind_text node.kind) (path_text path) (attr_text p.attr) (decimal p.created) (decimal p.written) (hex_text p.access) (hex_text p.owner) (hex_text p.audit) (last_text node.kind node.bytes)
    ∙ ap (λ (t : List ℕ). old ++ (t ++ 10 ∷ [])) (sym (line_is path node))

job_pieces : (old name bytes : List ℕ) → (((((old ++ codes "JOB\t") ++ name) ++ 9 ∷ []) ++ bytes) ++ codes "\n") ≡ old ++ (codes "JOB\t" ++ (name ++ 9 ∷ (bytes ++ codes "\n")))
job_pieces old name bytes = simp append_assoc

-- what is written of a job file, one after the other
pub job_put : (old l1 l2 l3 l4 l5 name : List ℕ) (job : JobText) → l1 ≡ old ++ codes "JOB\t" → l2 ≡ l1 ++ name → name ≡ encode_utf8_all job.0 → l3 ≡ l2 ++ 9 ∷ [] → l4 ≡ l3 ++ hex_text job.1 → l5 ≡ l4 ++ codes "\n" → l5 ≡ old ++ job_line job
job_put old l1 l2 l3 l4 l5 name job e1 e2 is e3 e4 e5 =
    e5 ∙ ap (λ (t : List ℕ). t ++ codes "\n") (e4 ∙ ap (λ (t : List ℕ). t ++ hex_text job.1) (e3 ∙ ap (λ (t : List ℕ). t ++ 9 ∷ []) (e2 ∙ ap (λ (t : List ℕ). t ++ name) e1 ∙ ap (λ (t : List ℕ). (old ++ codes "JOB\t") ++ t) is)))
    ∙ job_pieces old (encode_utf8_all job.0) (hex_text job.1)

pub four_parts : (a b c d : List ℕ) → a ++ b ++ c ++ d ≡ a ++ (b ++ (c ++ d))
four_parts a b c d = simp append_assoc
